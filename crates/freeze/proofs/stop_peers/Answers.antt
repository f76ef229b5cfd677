-- `freeze::stop_peers` meets its contract. Assumes nothing.
use Rattle.freeze.proofs.Laws as laws
use borrow.Author.Rules.{rules}
use mathlib.Core.Path.{refl}
use native.Mathlib.Omega.{arith}
use Rattle.kinds.specs.Turns.{turns}
use Rattle.freeze.proofs.stop_peers.Goals as goal

pub loop-k-init : goal.loop-k-init
loop-k-init c = (omega arith, refl, unfold turns in refl)

pub loop-k-preserved : goal.loop-k-preserved
loop-k-preserved c = search (rules, laws.turn_length, laws.turn_next)

pub returns : goal.returns
returns c = search laws.turn_last
