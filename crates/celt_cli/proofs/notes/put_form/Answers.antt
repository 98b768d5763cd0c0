use Rattle.std.proofs.Common.{◌+◌, ◌≤◌, length, arith, subst, codes}
use Rattle.celt_session.specs.Texts.{IsPut}
use Rattle.celt_cli.specs.Notes.{labelled_of}
use Rattle.celt_cli.proofs.Noting.{four_put}
use Rattle.celt_cli.proofs.notes.put_form.Goals as goal

pub put_labelled-at-requires : goal.put_labelled-at-requires
put_labelled-at-requires c =
    let room : c.args.at + 120 ≤ length c.args.out.now = c.requires in
    omega arith

pub put_labelled-at-requires-2 : goal.put_labelled-at-requires-2
put_labelled-at-requires-2 c =
    let room : c.args.at + 120 ≤ length c.args.out.now = c.requires in
    let a = c.put_labelled-at.ensures.put.len in
    let b : c.put_labelled-at.result ≤ c.args.at + 5 + 22 = c.put_labelled-at.ensures.most in
    omega arith

pub put_labelled-at-requires-3 : goal.put_labelled-at-requires-3
put_labelled-at-requires-3 c =
    let room : c.args.at + 120 ≤ length c.args.out.now = c.requires in
    let a = c.put_labelled-at.ensures.put.len in
    let b : c.put_labelled-at.result ≤ c.args.at + 5 + 22 = c.put_labelled-at.ensures.most in
    let d = c.put_labelled-at-2.ensures.put.len in
    let e : c.put_labelled-at-2.result ≤ c.put_labelled-at.result + 4 + 22 = c.put_labelled-at-2.ensures.most in
    omega arith

pub put_labelled-requires : goal.put_labelled-requires
put_labelled-requires c =
    let room : c.args.at + 120 ≤ length c.args.out.now = c.requires in
    let a = c.put_labelled-at.ensures.put.len in
    let b : c.put_labelled-at.result ≤ c.args.at + 5 + 22 = c.put_labelled-at.ensures.most in
    let d = c.put_labelled-at-2.ensures.put.len in
    let e : c.put_labelled-at-2.result ≤ c.put_labelled-at.result + 4 + 22 = c.put_labelled-at-2.ensures.most in
    let f = c.put_labelled-at-3.ensures.put.len in
    let g : c.put_labelled-at-3.result ≤ c.put_labelled-at-2.result + 8 + 22 = c.put_labelled-at-3.ensures.most in
    omega arith

pub returns-clause-put : goal.returns-clause-put
returns-clause-put c =
    let one = subst (λ n. IsPut c.args.out.now c.put_labelled-at.new.out c.args.at c.put_labelled-at.result (labelled_of (codes "codec") n)) c.from.ensures c.put_labelled-at.ensures.put in
    let two = subst (λ n. IsPut c.put_labelled-at.new.out c.put_labelled-at-2.new.out c.put_labelled-at.result c.put_labelled-at-2.result (labelled_of (codes "bits") n)) c.from-2.ensures c.put_labelled-at-2.ensures.put in
    let three = subst (λ n. IsPut c.put_labelled-at-2.new.out c.put_labelled-at-3.new.out c.put_labelled-at-2.result c.put_labelled-at-3.result (labelled_of (codes "channels") n)) c.from-3.ensures c.put_labelled-at-3.ensures.put in
    let four = subst (λ n. IsPut c.put_labelled-at-3.new.out c.put_labelled.new.out c.put_labelled-at-3.result c.put_labelled.result (labelled_of (codes "rate") n)) c.from-4.ensures c.put_labelled.ensures.put in
    four_put c.args.out.now c.put_labelled-at.new.out c.put_labelled-at-2.new.out c.put_labelled-at-3.new.out c.put_labelled.new.out
    c.args.at c.put_labelled-at.result c.put_labelled-at-2.result c.put_labelled-at-3.result c.put_labelled.result
    (labelled_of (codes "codec") c.args.codec) (labelled_of (codes "bits") c.args.bits) (labelled_of (codes "channels") c.args.channels) (labelled_of (codes "rate") c.args.rate)
    one two three four

pub returns-clause-most : goal.returns-clause-most
returns-clause-most c =
    let b : c.put_labelled-at.result ≤ c.args.at + 5 + 22 = c.put_labelled-at.ensures.most in
    let e : c.put_labelled-at-2.result ≤ c.put_labelled-at.result + 4 + 22 = c.put_labelled-at-2.ensures.most in
    let g : c.put_labelled-at-3.result ≤ c.put_labelled-at-2.result + 8 + 22 = c.put_labelled-at-3.ensures.most in
    let h : c.put_labelled.result ≤ c.put_labelled-at-3.result + 4 + 22 = c.put_labelled.ensures.most in
    omega arith
