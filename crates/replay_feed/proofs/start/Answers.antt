-- `replay_feed::start` meets its contract. Assumes nothing.
use mathlib.Core.Path.{refl}
use lib.ListN.{length}
use borrow.Author.Tests.{eq-eqb}
use Rattle.replay_text.proofs.WholeLaws.{whole}
use Rattle.replay_feed.proofs.start.Goals as goal

pub returns : goal.returns
returns c = record { begins = λ b a. refl; fit = λ b a h. rw (eq-eqb (length b.line) 128 h); whole = whole }
