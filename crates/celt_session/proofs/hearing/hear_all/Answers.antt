use Rattle.std.proofs.Common.{◌≡◌, length, arith, ◌∙◌, ap}
use Rattle.celt_analysis.specs.Batches.{AreWindows}
use Rattle.celt_session.specs.Hearings.{window_at, trail_by, pitches_of}
use Rattle.celt_session.proofs.HearingSteps.{owns_pitches, windows_stay, sizes_stay, hears_all}
use Rattle.celt_session.proofs.hearing.hear_all.Goals as goal

pub analyse_batch-requires : goal.analyse_batch-requires
analyse_batch-requires g c =
    let kind = c.args.before.kind in
    let windows = window_at kind c.args.samples.now in
    let owns = owns_pitches kind windows c.fill_windows.new.slots c.pitch_batch.new.slots (omega arith) c.fill_windows.ensures.windows c.pitch_batch.ensures in
    let sizes : AreWindows kind c.pitch_batch.new.slots =
    sizes_stay kind c.fill_windows.new.slots c.pitch_batch.new.slots (omega arith) c.fill_windows.ensures.sizes (λ k d less. (c.pitch_batch.ensures k d less).window) in
    let passed : AreWindows kind c.pass_settings-trail.new.slots =
    sizes_stay kind c.pitch_batch.new.slots c.pass_settings-trail.new.slots (omega arith) sizes
    (λ k d less. (c.pass_settings-trail.ensures.passed (pitches_of kind windows) owns k d less).window) in
    (c.type_bounds.sync-G, passed)

pub returns-clause-sizes : goal.returns-clause-sizes
returns-clause-sizes g c =
    let kind = c.args.before.kind in
    let windows = window_at kind c.args.samples.now in
    let owns = owns_pitches kind windows c.fill_windows.new.slots c.pitch_batch.new.slots (omega arith) c.fill_windows.ensures.windows c.pitch_batch.ensures in
    let sizes : AreWindows kind c.pitch_batch.new.slots =
    sizes_stay kind c.fill_windows.new.slots c.pitch_batch.new.slots (omega arith) c.fill_windows.ensures.sizes (λ k d less. (c.pitch_batch.ensures k d less).window) in
    let passed : AreWindows kind c.pass_settings-trail.new.slots =
    sizes_stay kind c.pitch_batch.new.slots c.pass_settings-trail.new.slots (omega arith) sizes
    (λ k d less. (c.pass_settings-trail.ensures.passed (pitches_of kind windows) owns k d less).window) in
    sizes_stay kind c.pass_settings-trail.new.slots c.analyse_batch.new.slots (omega arith) passed (λ k d less. (c.analyse_batch.ensures k d less).window)

pub returns-clause-heard : goal.returns-clause-heard
returns-clause-heard g c =
    let kind = c.args.before.kind in
    let windows = window_at kind c.args.samples.now in
    let owns = owns_pitches kind windows c.fill_windows.new.slots c.pitch_batch.new.slots (omega arith) c.fill_windows.ensures.windows c.pitch_batch.ensures in
    let holds = windows_stay windows c.fill_windows.new.slots c.pitch_batch.new.slots (omega arith) c.fill_windows.ensures.windows (λ k d less. (c.pitch_batch.ensures k d less).window) in
    hears_all kind windows c.args.before.trail c.pitch_batch.new.slots c.pass_settings-trail.new.slots c.analyse_batch.new.slots (omega arith) (omega arith) holds
    (c.pass_settings-trail.ensures.passed (pitches_of kind windows) owns) c.analyse_batch.ensures

pub returns-clause-trail : goal.returns-clause-trail
returns-clause-trail g c =
    let kind = c.args.before.kind in
    let windows = window_at kind c.args.samples.now in
    let owns = owns_pitches kind windows c.fill_windows.new.slots c.pitch_batch.new.slots (omega arith) c.fill_windows.ensures.windows c.pitch_batch.ensures in
    let same : length c.pitch_batch.new.slots ≡ length c.args.slots.now = omega arith in
    c.pass_settings-trail.ensures.trail (pitches_of kind windows) owns ∙ ap (trail_by (pitches_of kind windows) c.args.before.trail) same
