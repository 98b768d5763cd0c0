use Rattle.std.proofs.Common.{◌≡◌, ◌*◌, ◌≤◌, ap, sym, ◌∙◌, subst}
use Rattle.celt_base.specs.declared.kind.Kind.{Kind}
use Rattle.celt_session.specs.Frames.{kind_of, duration}
use Rattle.celt_session.specs.Encoding.{coding_of, toc_of, size_number, size_of}
use Rattle.celt_session.proofs.Planned.{IsToc, toc_is, kind_channels, duration_for, few_frames}
use Rattle.celt_session.proofs.planning.plan_of.Goals as goal

pub invariant_of-result : goal.invariant_of-result
invariant_of-result c =
    let s = c.args.settings in
    let channels = c.args.channels in
    let coding = c.coding_of.ensures in
    let toc = c.toc-toc.ensures ∙ ap (λ x. toc_of x channels) coding in
    let parts = subst (λ t. IsToc t (size_number (size_of s.frame)) channels) (sym toc) (toc_is s channels c.requires.channels) in
    let kind = c.kind_from-kind.ensures in
    let samples : c.samples_in.result ≡ s.frame = c.samples_in.ensures.value ∙ ap duration (kind ∙ ap kind_of toc) ∙ duration_for s channels c.requires.settings c.requires.channels in
    record {
      celt = parts.celt;
      code = parts.code;
      kind_is = kind;
      samples_is = c.samples_in.ensures.value;
      least = c.requires.settings.least;
      most = c.requires.settings.most;
      some = c.requires.settings.some;
      few = few_frames s c.requires.settings;
      short = subst (λ n. s.group * n ≤ 5760) (sym samples) c.requires.settings.short;
    }

pub returns-clause-channels : goal.returns-clause-channels
returns-clause-channels c =
    let s = c.args.settings in
    let channels = c.args.channels in
    let toc = c.toc-toc.ensures ∙ ap (λ x. toc_of x channels) c.coding_of.ensures in
    ap (λ (k : Kind). k.channels) (c.kind_from-kind.ensures ∙ ap kind_of toc) ∙ kind_channels (toc_of (coding_of s) channels) ∙ (toc_is s channels c.requires.channels).channels_are
