-- What counts as a list of the claim, and whose replies it compares.
--     only_hold           request lines and bad lines count, size and set lines do not
--     requests_hold       the requests of a list, in order
-- Assumes nothing.
use Rattle.std.specs.Prelude.{◌≡◌, refl, true, false, List, [], ◌∷◌, map, Ok}
use Rattle.kinds.specs.declared.request.Request.TheVariants.{Error, End}
use Rattle.replay_text.specs.Results.{Parsed, bad}
use Rattle.replay_text.specs.declared.Line.TheVariants.{Size, Set, Request}
use Rattle.replay_text.specs.declared.Table.TheVariants.{Memory}
use Rattle.replay_text.specs.SessionIsolation.{requests_only, requests_in}

abbrev lists : List (List Parsed)
lists =
    []
    ∷ (Ok (Request (Error 1)) ∷ bad ∷ Ok (Request (End 2)) ∷ [])
    ∷ (Ok (Request (Error 1)) ∷ Ok (Size 1 1 1 1) ∷ [])
    ∷ (bad ∷ Ok (Set Memory 0 0) ∷ [])
    ∷ []

pub only_hold : map requests_only lists ≡ true ∷ true ∷ false ∷ false ∷ []
unfolding requests_only
only_hold = refl

pub requests_hold : requests_in (Ok (Request (Error 1)) ∷ bad ∷ Ok (Request (End 2)) ∷ []) ≡ Error 1 ∷ End 2 ∷ []
unfolding requests_in
requests_hold = refl
