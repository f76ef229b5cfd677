-- `text_fields::number::u64::in_text` meets its contract. Assumes nothing.
use Rattle.std.proofs.Common.{arith, rules, ◌∙◌}
use Rattle.text_fields.proofs.NumberInLaws as laws
use Rattle.text_fields.proofs.number.U64FieldValue.in_text.Goals.{then-is_empty-via-then-is_empty, then-is_empty-via-else-is_empty+then-text-gt-MOST_DIGITS}
use Rattle.text_fields.proofs.number.U64FieldValue.in_text.Goals as goal

pub returns-then-is_empty : goal.returns-then-is_empty
returns-then-is_empty c = elim c.then-is_empty.branch [
  | then-is_empty-via-then-is_empty w ↦ laws.number_empty _ c.is_empty.ensures w.if-is_empty.true
  | then-is_empty-via-else-is_empty+then-text-gt-MOST_DIGITS w ↦ laws.number_long _ c.is_empty.ensures w.if-is_empty.false w.if-text-gt-MOST_DIGITS.true
]

pub loop-byte-init : goal.loop-byte-init
loop-byte-init c =
    let b = laws.begins _ c.is_empty.ensures c.if-is_empty.false in
    record { begins = b; short = c.if-text-gt-MOST_DIGITS.false; below = omega arith; same = laws.number_start _ b c.if-text-gt-MOST_DIGITS.false }

pub overflow_mul-value : goal.overflow_mul-value
overflow_mul-value c = record { fits = omega (arith, laws.shifts _ _ c.loop-byte.invariant.below c.args.text.now c.loop-byte-test.true c.loop-byte.invariant.short) }

pub returns-in_err-value : goal.returns-in_err-value
returns-in_err-value c = c.from_residual.ensures ∙ laws.number_bad _ _ _ c.loop-byte.invariant.same c.loop-byte-test.true c.digit.ensures c.in_err-value.was

pub overflow_add-value : goal.overflow_add-value
overflow_add-value c = record { fits = omega (arith, laws.fits _ _ c.loop-byte.invariant.below c.args.text.now c.loop-byte-test.true c.loop-byte.invariant.short c.digit.ensures c.in_ok-value.was) }

pub loop-byte-preserved : goal.loop-byte-preserved
loop-byte-preserved c = search (rules, laws.more, laws.number_next)

pub returns : goal.returns
returns c = search laws.number_end
