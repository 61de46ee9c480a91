use native.Mathlib.Omega.{arith}
use Rattle.rounds.proofs.Laws.Numbers.{numbered_none, numbered_all, numbered_kept, row_room, room_now, line_low, line_known, row_sought, row_bucket, row_low, first_small, listed₁, numbered_more}
use Rattle.rounds.proofs.numbers.number_rows.Goals as goal

pub loop-i-init : goal.loop-i-init
loop-i-init c = numbered_none _ _ _ _ _ c.requires.0 c.requires.1 c.requires.2 c.requires.3

pub code_of-code-requires : goal.code_of-code-requires
code_of-code-requires c = (room_now _ _ _ _ _ _ _ _ c.loop-i.invariant, line_low _ _ _ _ _ _ _ _ c.loop-i.invariant c.loop-i-test.true, line_known _ _ _ _ _ _ _ _ c.loop-i.invariant c.loop-i-test.true)

pub first_line-first-requires : goal.first_line-first-requires
first_line-first-requires c =
    let s = row_sought _ _ _ _ _ _ _ _ c.loop-i.invariant c.loop-i-test.true _ _ c.code_of-code.ensures c.bucket_of-bucket.ensures in
    (s.room, s.wide, s.fits, s.known, s.within, s.is_p, s.is_b, s.bucketed)

pub keep_line-requires : goal.keep_line-requires
keep_line-requires c =
    let s = row_sought _ _ _ _ _ _ _ _ c.loop-i.invariant c.loop-i-test.true _ _ c.code_of-code.ensures c.bucket_of-bucket.ensures in
    (s.room, row_low _ _ _ _ _ _ _ _ c.loop-i.invariant c.loop-i-test.true _ _ c.code_of-code.ensures c.bucket_of-bucket.ensures, row_bucket _ _ _ _ _ _ _ _ c.loop-i.invariant c.loop-i-test.true _ _ c.code_of-code.ensures c.bucket_of-bucket.ensures)

pub write_numbers-requires : goal.write_numbers-requires
write_numbers-requires c = (listed₁ _ _ _ _ _ _ _ _ c.loop-i.invariant c.loop-i-test.true _ _ c.code_of-code.ensures c.bucket_of-bucket.ensures _ c.first_line-first.ensures _ c.keep_line.ensures, row_room _ _ _ _ _ _ _ _ c.loop-i.invariant c.loop-i-test.true, first_small _ _ _ _ _ _ _ _ c.loop-i.invariant c.loop-i-test.true _ _ c.code_of-code.ensures c.bucket_of-bucket.ensures _ c.first_line-first.ensures)

pub overflow_add-at : goal.overflow_add-at
overflow_add-at c = omega (arith, row_room _ _ _ _ _ _ _ _ c.loop-i.invariant c.loop-i-test.true, c.loop-i.invariant.listed.few)

pub loop-i-preserved : goal.loop-i-preserved
loop-i-preserved c = numbered_more _ _ _ _ _ _ _ _ c.loop-i.invariant c.loop-i-test.true _ _ c.code_of-code.ensures c.bucket_of-bucket.ensures _ c.first_line-first.ensures _ c.keep_line.ensures _ c.write_numbers.ensures.written c.write_numbers.ensures.kept

pub returns : goal.returns
returns c = record { numbers = numbered_all _ _ _ _ _ _ _ _ c.loop-i.invariant c.loop-i-test.false; kept = numbered_kept _ _ _ _ _ _ _ _ c.loop-i.invariant }
