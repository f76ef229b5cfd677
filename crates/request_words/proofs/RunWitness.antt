-- The claim over words is not empty: it holds of lists with own requests that pass.
--     group               PE 2 alone
--     first, second       the bridge of case A, and one that differs in the state of PEs 0 and 3
--     asked, others       request words for each: both hold PE 2's DMA of case A, a fatal message of another PE, that DMA again, a fence clear and PE 2's MSI of
--                         case H, in this order, and differ in the others
--     ran a w             what a run over the request words w leaves; told a w: the words of the own answers in it
--     closed, view        the premises of the claim
--     first-places, second-places     their places; told-first: the own answers are the address of case A, 18 and the MSI of case H
--     witness             THE CLAIM at these bridges and words
-- Assumes nothing.
use Rattle.std.specs.Prelude.{◌≡◌, refl, Bool, true, List, [], ◌∷◌, ◌++◌, ℕ, ◌*◌, eqb, replicate}
use Rattle.std.proofs.Common.{sym, ◌∙◌, arith, eqb-true}
use Rattle.std.proofs.lemmas.List.{get_or-replicate}
use Rattle.kinds.specs.Words.{at}
use Rattle.kinds.specs.declared.number.PeNumber.{PeNumber}
use Rattle.isolation.specs.Isolation.{Place, Own, Other}
use Rattle.isolation.specs.View.{Bridge, Written, View}
use Rattle.kinds.specs.declared.request.Request.{Request}
use Rattle.profile.specs.Agree.{Closed}
use Rattle.profile.proofs.Case.{plain, word_row, calm, idle, states, read, write}
use Rattle.profile.proofs.Cases.{memory_a}
use Rattle.profile.specs.Fence.{fence_word, FatalMessage, Cleared}
use Rattle.profile.proofs.Opened.{opened}
use Rattle.profile.specs.Tables.{peer_words}
use Rattle.request_words.specs.Layout.{decoded, decoded_dma, written}
use Rattle.request_words.proofs.LayoutCases.{eight}
use Rattle.request_words.specs.Run.{RunState, served, ran_on, ran_to}
use Rattle.request_words.specs.RunIsolation.{run_places, own_answers}
use Rattle.request_words.proofs.RunIsolation.{run_isolation}

unfoldable pub group : PeNumber → Bool
group p = eqb p.0 2

abbrev pub first : Bridge
first = record { tables = plain; memory = memory_a; live = idle }

abbrev pub second : Bridge
second = record { tables = plain; memory = memory_a; live = states (word_row 3 8 77 0x2018) calm calm (word_row 3 12 6 9) }

-- PE 3's error message, PE 2's DMA, words that name no request, PE 3's fatal message, PE 2's DMA, a fence clear, PE 2's MSI
unfoldable pub asked : List ℕ
asked =
    eight 3 6 0 0 0 0 0 0 ++ eight 0 5 0 0x3ABC 4 0 0 0 ++ eight 99 0 0 0 0 0 0 0 ++ eight 7 6 0 0 0 0 0 0 ++ eight 0 5 0 0x3ABC 4 0 0 0
    ++ eight 8 0 0 0 0 0 0 0 ++ eight 0 5 1 0x1000000000000070 4 3 0 0

-- PE 2's DMA, PE 1's DMA, PE 1's fatal message, one of nobody, PE 2's DMA, a fence clear, PE 2's MSI
unfoldable pub others : List ℕ
others =
    eight 0 5 0 0x3ABC 4 0 0 0 ++ eight 0 1 0 0x3ABC 4 0 0 0 ++ eight 7 1 0 0 0 0 0 0 ++ eight 7 8 0 0 0 0 0 0 ++ eight 0 5 0 0x3ABC 4 0 0 0
    ++ eight 8 1 1 1 1 1 1 1 ++ eight 0 5 1 0x1000000000000070 4 3 0 0

-- answer words, with room for eight
abbrev pub blank : List ℕ
blank = replicate 64 9

abbrev pub ran : Bridge → (requests : List ℕ) → RunState
ran a w = ran_to a.tables a.memory w a.live blank (served w blank)

-- the own answers
abbrev pub told : Bridge → (requests : List ℕ) → List (List ℕ)
told a w = own_answers group a w (ran a w).answers (served w blank)

-- ---- the premises

member : (p : PeNumber) → group p ≡ true → p.0 ≡ 2
unfolding group
member p g = eqb-true p.0 2 g

pub closed : Closed group plain
closed = record { unlisted = λ p k h b o g. let e = member k g in rw (e, get_or-replicate {A = ℕ} (4 * peer_words) (p.0 * peer_words) 0 0 (omega arith)) }

pub view : View group first second
view = record {
  public = record {
    sizes = refl;
    installed = refl;
    all-lengths = refl;
    requesters = refl;
    peers = refl;
    windows = refl;
    segments = refl;
    fence = refl;
    interrupt-pe = λ i h. refl;
  };
  written = record {
    stop_bits_lem = λ p g. rw (member p g);
    reason = λ p g. rw (member p g);
    value = λ p g. rw (member p g);
    failed = λ p g. rw (member p g);
    interrupts = λ i h g. refl;
  };
  entries = λ p g i h. refl;
  table-words = λ k r. refl;
}

-- ---- the lists

abbrev pub stand : List (Place Request)
stand = Own (read 5 0x3ABC 4) ∷ Other FatalMessage ∷ Own (read 5 0x3ABC 4) ∷ Other Cleared ∷ Own (write 5 0x1000000000000070 4 3) ∷ []

pub first-places : run_places group first asked (served asked blank) ≡ stand
unfolding group asked memory_a opened decoded decoded_dma
first-places = refl

pub second-places : run_places group second others (served others blank) ≡ stand
unfolding group others memory_a opened decoded decoded_dma
second-places = refl

pub told-first : told first asked ≡ eight 0 0 0x12345ABC 1 2 0 0 0 ∷ eight 5 18 0 0 0 0 0 0 ∷ eight 1 0 7 0 0 5 6 0 ∷ []
unfolding group asked memory_a opened decoded decoded_dma written ran_on
told-first = refl

pub witness : (told first asked ≡ told second others) × Written group 8 (ran first asked).live (ran second others).live
    × (at (ran first asked).live.state (fence_word 4) ≡ at (ran second others).live.state (fence_word 4))
witness = run_isolation.isolated group first second closed view asked others blank blank (first-places ∙ sym second-places)
