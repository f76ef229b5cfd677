use Rattle.std.specs.Prelude.{◌≡◌, ◌+◌, ◌-◌}
use Rattle.replay_text.specs.Digits.{places, places_from}
use Rattle.text_report.proofs.digits.places.Given as goal

abbrev pub invariant-loop-count : goal.invariant-loop-count
invariant-loop-count l = places l.n + 1 ≡ l.count + places_from (20 - l.count) l.rest
