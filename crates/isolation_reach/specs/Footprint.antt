-- Marks on the memory words that the walks of a group read for an address of the DMA class.
--     pe_turn g l m r p   r with the words that walks of PE p read in memory m, if it is a member of group g; l are the translation entries
--     members_marks a b g l m n w  the same of all PEs below n, on a list of w words with no mark; a and b are the lengths of the lists that are lent for it,
--                                 and where they are not that of memory nothing is marked
--     room_after a b m t          a list t that is lent for it, afterwards: 0 in every word, or as it was where nothing is marked
--     MembersMarked n g l m r t u x v w   the marks r became x, and the lists t and u that are lent for it became v and w
--     Exact g n l m t         THE DEFINITION OF EXACT MARKS: a word has a mark in t if some walk of a member reads it for an address of the DMA class,
--                             and only then, in all tables with N = n and these entries
-- Assumes nothing.
use Rattle.std.specs.Prelude.{◌≡◌, true, cond, List, ℕ, eqb, length, replicate}
use Rattle.kinds.specs.Turns.{turns}
use Rattle.isolation_reach.specs.Marks.{marks_by}
use Rattle.isolation_groups.specs.Mark.{any_mark}
use Rattle.isolation_groups.specs.Member.{member_of, group}
use Rattle.profile.specs.Agree.{Reads}
use Rattle.profile.specs.Entry.{entry_in}
use Rattle.profile.specs.Tables.{Tables}

unfoldable pub pe_turn : (g entries memory : List ℕ) → List ℕ → ℕ → List ℕ
pe_turn g l m r p =
    cond (member_of g p) (marks_by m (entry_in l (record { 0 = p }) 1) 1 (marks_by m (entry_in l (record { 0 = p }) 0) 0 r)) r

unfoldable pub members_marks : (a b : ℕ) → (g entries memory : List ℕ) → (pes words : ℕ) → List ℕ
members_marks a b g l m n w =
    cond (eqb a (length m)) (cond (eqb b (length m)) (turns (pe_turn g l m) (replicate w 0) n) (replicate w 0)) (replicate w 0)

unfoldable pub room_after : (a b : ℕ) → (memory list : List ℕ) → List ℕ
room_after a b m t = cond (eqb a (length m)) (cond (eqb b (length m)) (replicate (length t) 0) t) t

pub record MembersMarked (n : ℕ) (g l m r t u x v w : List ℕ) : Type 0 where
  pub marks : x ≡ members_marks (length t) (length u) g l m n (length r)
  pub tables : v ≡ room_after (length t) (length u) m t
  pub under : w ≡ room_after (length t) (length u) m u

pub record Exact (g : List ℕ) (n : ℕ) (l m t : List ℕ) : Type 0 where
  pub needed : (f : Tables) → f.sizes.pes ≡ n → f.entries ≡ l → (k : ℕ) → Reads (group g) f m k → any_mark t k ≡ true
  pub only : (f : Tables) → f.sizes.pes ≡ n → f.entries ≡ l → (k : ℕ) → any_mark t k ≡ true → Reads (group g) f m k
