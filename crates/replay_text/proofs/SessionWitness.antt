-- The claim over sessions is not empty: it holds of lists of lines with own requests that pass.
--     holding a           the session that holds the words of bridge a
--     lines, others       the two lists of `isolation/Bridges` as lines, one with bad lines in it
--     lines-only, others-only     request lines and bad lines alone; same-places: the own requests are the same, and no line is a fatal message or fence clear
--     group-replies       what the group's own lines answer, in numbers: not refusals alone
--     witness             THE CLAIM at the two bridges of `isolation/Bridges`, which differ in all that the group does not see
-- Assumes nothing.
use Rattle.std.specs.Prelude.{◌≡◌, refl, true, List, [], ◌∷◌, ◌++◌, map, Ok}
use Rattle.kinds.specs.Answer.{numbered, refuse}
use Rattle.kinds.specs.Words.{at}
use Rattle.kinds.specs.declared.answer.Answer.TheVariants.{Msi, Ones, Refuse, Done}
use Rattle.kinds.specs.declared.answer.Reason.TheVariants.{BadRequest, TableWord, MmioStopped, AboveInstalled}
use Rattle.profile.specs.Fence.{fence_word}
use Rattle.isolation.proofs.Bridges.{group, tables, words, first, second, list, other, opened_bridges}
use Rattle.isolation.specs.Isolation.{places_in}
use Rattle.isolation.specs.View.{Bridge, Written}
use Rattle.isolation.proofs.Witness.{closed, view, pass}
use Rattle.replay_text.specs.Results.{Parsed, bad, says}
use Rattle.replay_text.specs.declared.Line.TheVariants.{Request}
use Rattle.replay_text.specs.Session.{reply_to, after_line}
use Rattle.replay_text.specs.SessionIsolation.{requests_only, requests_in, own_replies, lines_left}
use Rattle.replay_text.proofs.SessionIsolation.{session-isolation}
use Rattle.replay_text.specs.SessionTables.{Session}

abbrev holding : Bridge → Session
holding a = record { tables = a.tables; memory = a.memory; live = a.live }

abbrev lines : List Parsed
lines = bad ∷ map (λ q. Ok (Request q)) list ++ (bad ∷ [])

abbrev others : List Parsed
others = map (λ q. Ok (Request q)) other

lines-only : requests_only lines ≡ true
unfolding list requests_only
lines-only = refl

others-only : requests_only others ≡ true
unfolding other requests_only
others-only = refl

same-places : places_in group first (requests_in lines) ≡ places_in group second (requests_in others)
unfolding opened_bridges requests_in
same-places = refl

group-replies : own_replies group (holding first) lines ≡
    map (λ a. says (numbered a))
    (pass 0x9010 2 2 ∷ pass 0x1000000 1 0 ∷ Msi 1 5 6 ∷ refuse AboveInstalled ∷ refuse BadRequest ∷ Refuse TableWord 1 (record { 0 = 0x20 }) ∷ Ones MmioStopped 0xFFFFFFFF ∷ Done
    ∷ Done ∷ [])
unfolding opened_bridges pass own_replies reply_to after_line
group-replies = refl

pub witness : (own_replies group (holding first) lines ≡ own_replies group (holding second) others)
    × Written group 4 (lines_left (holding first) lines).live (lines_left (holding second) others).live
    × (at (lines_left (holding first) lines).live.state (fence_word 4) ≡ at (lines_left (holding second) others).live.state (fence_word 4))
unfolding tables
witness =
    session-isolation.isolated group (holding first) (holding second) (closed (words 1)) (view (words 1) (words 2) (unfold words in refl))
    lines others lines-only others-only same-places
