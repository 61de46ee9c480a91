-- `rows::check::check_models` meets its contract: each return is one case of check of two models. Assumes nothing.
use Prim.Native.Nat.{ℕ, ◌%◌, ◌≤◌}
use mathlib.Core.Path.{◌≡◌, refl, sym, ◌∙◌, ap}
use mathlib.Core.Bool.{true}
use mathlib.Core.List.{List, ◌++◌}
use native.Mathlib.Omega.{arith}
use lib.ListN.{length, take, drop, replicate}
use lib.Seq.{length-take-le}
use Rattle.std.proofs.Common.{Result, Ok, Err}
use Rattle.std.proofs.lemmas.Result.{err_from_is_err_and}
use Rattle.lists.proofs.Laws.Over.{back_room, back_front}
use Rattle.stored.specs.declared.refusal.Refusal.{Refusal}
use Rattle.stored.specs.Model.{Model, size}
use Rattle.stored.specs.Signature.{signature, same_signature}
use Rattle.stored.proofs.Laws.Reading.{reads_formed}
use Rattle.stored.proofs.Laws.WellFormed.{WellFormed}
use Rattle.rows.specs.Pairs.{pair_count, give_from, given_by}
use Rattle.rows.specs.Answer.{refused}
use Rattle.rows.specs.Check.{judged, blank, check_models}
use Rattle.rows.proofs.Laws.Given.{cramped, roomy}
use Rattle.rows.proofs.Laws.Answer.{written_accepted, was_refused}
use Rattle.rows.proofs.Laws.Outcome.{refuses, refuses_as, passes_on}
use Rattle.rows.proofs.Laws.Pairs.{given_good, given_bad}
use Rattle.rows.proofs.Laws.Check.{length_blank, blank_front, judged_map, judged_images, judged_refused, check_no_room, check_signatures, check_odd, check_even}
use Rattle.rows.proofs.check.check_models.Goals as goal

-- the images of the source's elements, in the front of a table of 64 bytes
abbrev table : List ℕ
table = replicate 64 255

is_blank : table ≡ blank 64
unfolding blank
is_blank = refl

module _ (a : Model) (formed : WellFormed a) (n : ℕ) (q : n ≡ size a) where
  fits : n ≤ length table
  fits = omega (arith, ap length is_blank, length_blank 64, formed.few_elements)

  front : take n table ≡ blank (size a)
  front = ap (take n) is_blank ∙ blank_front n 64 (omega (arith, formed.few_elements)) ∙ ap blank q

  asked : length (take n table) ≡ size a
  asked = length-take-le n table fits ∙ q

  -- and what stands there once they are given
  module _ (new : List ℕ) (long : length new ≡ length (take n table)) where
    abbrev images : List ℕ
    images = take n (new ++ drop n table)

    fits_again : n ≤ length (new ++ drop n table)
    fits_again = back_room n table new fits long

    front_again : images ≡ new
    front_again = back_front n table new fits long

    asked_again : length images ≡ size a
    asked_again = ap length front_again ∙ long ∙ asked

    room_out : (room : ℕ) → n ≤ room → length images ≤ room
    room_out room h = omega (arith, asked_again)

  -- what the pairs give
  module _ (b : Model) (ps : List ℕ) (room : ℕ) (h : n ≤ room) (same : same_signature (signature a) (signature b) ≡ true) (even : length ps % 2 ≡ 0) (new : List ℕ) where
    abbrev Gives : Result (Unit {0}) Refusal → Type 0
    Gives r = given_by r new ≡ give_from (pair_count ps) a b ps 0 (take n table)

    given : (r : Result (Unit {0}) Refusal) → Gives r → give_from (pair_count ps) a b ps 0 (blank (size a)) ≡ given_by r new
    given r w = sym (w ∙ ap (give_from (pair_count ps) a b ps 0) front)

    bad : (x : Refusal) → Gives (Err x) → check_models ps room a b ≡ refused x
    bad x w = check_even ps room a b (roomy q room h) same even ∙ judged_refused a b _ x (given (Err x) w ∙ given_bad x new)

    good : Gives (Ok tt) → (long : length new ≡ length (take n table)) → check_models ps room a b ≡ judged a b (images new long)
    good w long =
        check_even ps room a b (roomy q room h) same even
        ∙ judged_images a b _ new (given (Ok tt) w ∙ given_good new)
        ∙ ap (judged a b) (sym (front_again new long))

pub returns-then-out-n : goal.returns-then-out-n
returns-then-out-n c =
    let it = refuses _ _ _ (check_no_room _ _ _ _ (cramped c.size-n.ensures _ c.if-out-n.true)) in
    record { answer = it.0; output = it.1 }

pub returns-then-not-same_signature : goal.returns-then-not-same_signature
returns-then-not-same_signature c =
    let room = roomy c.size-n.ensures _ c.if-out-n.false in
    let it = refuses _ _ _ (check_signatures _ _ _ _ room (sym c.same_signature.ensures ∙ c.if-not-same_signature.true)) in
    record { answer = it.0; output = it.1 }

pub returns-then-pairs-ne0 : goal.returns-then-pairs-ne0
returns-then-pairs-ne0 c =
    let room = roomy c.size-n.ensures _ c.if-out-n.false in
    let same = sym c.same_signature.ensures ∙ c.if-not-same_signature.false in
    let it = refuses _ _ _ (check_odd _ _ _ _ room same c.if-pairs-ne0.true) in
    record { answer = it.0; output = it.1 }

pub slice_bounds-images-end : goal.slice_bounds-images-end
slice_bounds-images-end c = omega (arith, c.size-n.ensures, (reads_formed _ _ c.args.source.now.reads).few_elements)

pub slice_bounds-give-end : goal.slice_bounds-give-end
slice_bounds-give-end c = sym (length-take-le _ _ (fits _ (reads_formed _ _ c.args.source.now.reads) _ c.size-n.ensures))

pub give-requires : goal.give-requires
give-requires c = asked _ (reads_formed _ _ c.args.source.now.reads) _ c.size-n.ensures

pub returns-in_err-give : goal.returns-in_err-give
returns-in_err-give c =
    let p = err_from_is_err_and c.from_residual.result c.from_residual.ensures.1 in
    let same = sym c.same_signature.ensures ∙ c.if-not-same_signature.false in
    let it = refuses_as _ _ _ _ (p.1 ∙ ap Err p.2) (bad _ (reads_formed _ _ c.args.source.now.reads) _ c.size-n.ensures _ _ _ c.if-out-n.false same c.if-pairs-ne0.false _ _ c.in_err-give.ensures) in
    record { answer = it.0; output = it.1 }

pub slice_bounds-images-end-2 : goal.slice_bounds-images-end-2
slice_bounds-images-end-2 c = fits_again _ (reads_formed _ _ c.args.source.now.reads) _ c.size-n.ensures c.give.new.images c.give.auto.images

pub slice_bounds-judge-end : goal.slice_bounds-judge-end
slice_bounds-judge-end c = sym (length-take-le _ _ (fits_again _ (reads_formed _ _ c.args.source.now.reads) _ c.size-n.ensures c.give.new.images c.give.auto.images))

pub judge-requires : goal.judge-requires
judge-requires c =
    let same = sym c.same_signature.ensures ∙ c.if-not-same_signature.false in
    (same, asked_again _ (reads_formed _ _ c.args.source.now.reads) _ c.size-n.ensures c.give.new.images c.give.auto.images)

pub returns-in_err-ended : goal.returns-in_err-ended
returns-in_err-ended c =
    let p = err_from_is_err_and c.from_residual-in_err-ended.result c.from_residual-in_err-ended.ensures.1 in
    let same = sym c.same_signature.ensures ∙ c.if-not-same_signature.false in
    let on = good _ (reads_formed _ _ c.args.source.now.reads) _ c.size-n.ensures _ _ _ c.if-out-n.false same c.if-pairs-ne0.false _ c.in_ok-give.ensures c.give.auto.images in
    let it = refuses_as _ _ _ _ (p.1 ∙ ap Err p.2) (on ∙ was_refused _ _ c.in_err-ended.ensures) in
    record { answer = it.0; output = it.1 }

pub slice_bounds-images-end-3 : goal.slice_bounds-images-end-3
slice_bounds-images-end-3 c = fits_again _ (reads_formed _ _ c.args.source.now.reads) _ c.size-n.ensures c.give.new.images c.give.auto.images

pub slice_bounds-put-end : goal.slice_bounds-put-end
slice_bounds-put-end c = sym (length-take-le _ _ (fits_again _ (reads_formed _ _ c.args.source.now.reads) _ c.size-n.ensures c.give.new.images c.give.auto.images))

pub put-requires : goal.put-requires
put-requires c = room_out _ (reads_formed _ _ c.args.source.now.reads) _ c.size-n.ensures c.give.new.images c.give.auto.images _ c.if-out-n.false

pub returns : goal.returns
returns c =
    let same = sym c.same_signature.ensures ∙ c.if-not-same_signature.false in
    let on = good _ (reads_formed _ _ c.args.source.now.reads) _ c.size-n.ensures _ _ _ c.if-out-n.false same c.if-pairs-ne0.false _ c.in_ok-give.ensures c.give.auto.images in
    let wrote = c.put.ensures ∙ sym (written_accepted _ _ (judged_map _ _ _ _ c.in_ok-ended.ensures) _) in
    let it = passes_on _ _ _ _ _ on (c.in_ok-ended.ensures, wrote) in
    record { answer = it.0; output = it.1 }
