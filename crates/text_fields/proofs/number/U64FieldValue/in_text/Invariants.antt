use Rattle.std.specs.Prelude.{◌≡◌, ◌*◌, ◌^◌, ◌≤◌, ◌<◌, length, drop}
use Rattle.replay_text.specs.Field.{number_of, number_from}
use Rattle.text_fields.proofs.number.U64FieldValue.in_text.Given as goal

abbrev pub invariant-loop-byte : goal.invariant-loop-byte
invariant-loop-byte l = record {
  begins : 1 ≤ length l.text;
  short : length l.text ≤ 16;
  below : l.value < 2 ^ (4 * l.byte-index);
  same : number_of l.text ≡ number_from l.value (drop l.byte-index l.text);
}
