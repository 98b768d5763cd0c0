-- The start of the samples.
use Rattle.std.proofs.Common.{◌≡◌, ℕ, ◌+◌, ◌-◌, ◌*◌, ◌≤◌, ◌⊎◌, List, [], ◌++◌, length, take, replicate, Option, Vec, refl, sym, ◌∙◌, ap, subst, arith}
use Rattle.std.specs.Prelude.{vec_capacity}
use Rattle.std.specs.List.{concat}
use Rattle.std.specs.declared.alloc.Global.{Global}
use Rattle.std.specs.Vec.{with_items}
use Rattle.std.proofs.Math.Nat.{zero-mul, mul-add}
use Rattle.std.proofs.lemmas.Nat.{mul-le}
use Rattle.std.proofs.lemmas.List.{length-replicate}
use Rattle.celt_session.specs.declared.plan.Plan.{Plan}
use Rattle.celt_session.specs.declared.maker.Maker.{Maker}
use Rattle.celt_session.specs.declared.packer.Packer.{Packer}
use Rattle.celt_session.specs.declared.settings.Settings.{Settings}
use Rattle.celt_session.specs.Frames.{kind_of, duration}
use Rattle.celt_session.specs.Encoding.{coding_of, toc_of}
use Rattle.celt_session.specs.FrameFunctions.{frames_from}
use Rattle.celt_session.specs.Windows.{lead}
use Rattle.celt_session.specs.FrameWorks.{FrameWorks, batch_len}
use Rattle.celt_session.specs.Packers.{Packs}
use Rattle.celt_session.specs.Makers.{group_bytes, plan_row, plan_frame}
use Rattle.celt_session.specs.FrameSessions.{IsNew, MakesBoth, IsBegun}
use Rattle.celt_session.proofs.Rows.{state-none, frames-none}
use Rattle.celt_session.proofs.PacketLemmas.{lent_whole}
use Rattle.celt_session.proofs.MakerLemmas.{plan_sizes}
use Rattle.celt_session.proofs.WindowLemmas.{held-start}

-- what is held of no samples
lead_held : (channels n len : ℕ) (old held : List ℕ) → held ≡ old ++ replicate (len - length old) 0 → old ≡ [] → len ≡ 2 * (channels * (lead + 0 * n)) → held ≡ replicate (group_bytes channels lead) 0
lead_held channels n len old held is none e =
    let zero = zero-mul n in
    let size : len - length old ≡ group_bytes channels lead = let a = ap length none in let b = ap (λ k. 2 * (channels * (lead + k))) zero in omega arith in
    is ∙ ap (λ l. l ++ replicate (len - length old) 0) none ∙ ap (λ k. replicate k 0) size

-- no frame in the packet that is being filled
no_packs : (plan : Plan) (frame : ℕ → List ℕ) (p : Packer) → p.packets ≡ 0 → p.count ≡ 0 → Packs plan frame 0 p
no_packs plan frame p none empty = record {
  place = let a = ap (λ n. n * plan.group) none in let b = zero-mul plan.group in omega arith;
  frames =
      let zero : p.count * plan.bytes ≡ 0 = ap (λ n. n * plan.bytes) empty ∙ zero-mul plan.bytes in
      ap (λ n. take n p.frames.items) zero ∙ sym (ap (λ n. concat (frames_from frame (p.packets * plan.group) n)) empty ∙ ap concat (frames-none frame (p.packets * plan.group)));
}

pub begins : {W : Type 0} (w : FrameWorks W) (settings : Settings) (channels : ℕ) (size : Option ℕ) (plan : Plan) (before : Maker W) (held : Vec ℕ Global) (len : ℕ) (page : List ℕ)
    → (channels ≡ 1) ⊎ (channels ≡ 2) → IsNew w before → MakesBoth w settings before.work → plan.toc ≡ toc_of (coding_of settings) channels → plan.bytes ≡ settings.bytes → plan.group ≡ settings.group
    → held.items ≡ before.framer.held.items ++ replicate (len - length before.framer.held.items) 0 → vec_capacity before.framer.held ≤ vec_capacity held → len ≡ 2 * batch_len plan.kind 0 → length page ≡ 65307
    → IsBegun w settings channels size before (record { plan = plan; left = size }) (record {
      work = before.work;
      framer = record { held = held; samples = before.framer.samples; frames = before.framer.frames };
      packer = record { frames = before.packer.frames; count = before.packer.count; packets = before.packer.packets; packet = before.packer.packet; page = with_items before.packer.page page };
    })
begins w settings channels size plan before held len page one_or_two new makes toc bytes group is capacity len_is room = record {
  toc = toc;
  bytes_are = bytes;
  group = group;
  left = refl;
  taking = record {
    maker = record {
      makes = subst (w.Makes before.work) (sym (plan.kind_is ∙ ap kind_of toc)) (makes channels one_or_two);
      framer = record { held = let a = new.framer.held in omega (arith, a, capacity); samples = new.framer.samples; frames = new.framer.frames };
      packer = record { frames = new.packer.frames; packet = new.packer.packet; page = ap length (lent_whole before.packer.page page (room ∙ sym new.packer.page)) ∙ room };
      few = let a = new.count in omega arith;
    };
    going = record { held = let a = mul-add plan.kind.channels lead (16 * duration plan.kind) in let l = lead_len in let t = plan.kind.some_channel in let s = plan_sizes plan in let u = s.0 in let m = mul-le 1 1 plan.kind.channels (16 * duration plan.kind) t (let d = plan.samples_is in omega arith) in omega arith; less = let a = new.count in let b = plan.some in omega arith };
    sum = let a = new.count in let b = new.packets in let l = lead_len in let t = plan.kind.two_channels in let m = mul-le plan.kind.channels lead 2 1145 t (omega arith) in omega arith;
  };
  packets = new.packets;
  made = λ shows. record {
    held = lead_is ∙ held-start plan.kind.channels plan.samples;
    within = let z = zero-mul plan.samples in let y = ap (λ n. plan.kind.channels * n) z in omega arith;
    shows = subst (w.Shows before.work) (sym (state-none w.function (plan_row w.function plan []))) shows;
    packs = no_packs plan (plan_frame w.function plan []) (record { frames = before.packer.frames; count = before.packer.count; packets = before.packer.packets; packet = before.packer.packet; page = with_items before.packer.page page }) new.packets new.count;
  };
} where
  lead_is : held.items ≡ replicate (group_bytes plan.kind.channels lead) 0
  lead_is = lead_held plan.kind.channels (duration plan.kind) len before.framer.held.items held.items is new.held len_is

  lead_len : length held.items ≡ group_bytes plan.kind.channels lead
  lead_len = ap length lead_is ∙ length-replicate {A = ℕ} (group_bytes plan.kind.channels lead) 0
