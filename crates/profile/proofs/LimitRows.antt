-- 01's limits, in numbers: at each limit and one past it, in one table with one statement over it.
--     Limit               what a test of the definition gives, and what 01 says
--     lent n m r w f      a row of `sized`: N, M, R and the words of memory, with the lengths of all tables changed by f; most: in digits
--     based b t l         a row of `walkable`: a base, a table code and a number of levels; walked t l: with base 0
--     asked q             a row of `formed`
--     sizes, lengths      the numbers N, M, R and the words of memory, with lengths that agree; each length one less and one more
--     depths              page tables that can be walked, and that cannot
--     forms               lengths of a DMA, widths of a load and a store, priorities
--     limits              all of them
--     limits_hold         THE STATEMENT: each test gives what its row says
-- Assumes nothing.
use Rattle.std.specs.Prelude.{◌≡◌, refl, Bool, true, false, cond, List, [], ◌∷◌, ◌++◌, map, ℕ, ◌+◌, ◌-◌, ◌*◌, ◌^◌, eqb}
use Rattle.kinds.specs.declared.request.Part.TheVariants.{Mmio}
use Rattle.kinds.specs.declared.request.Request.{Request}
use Rattle.kinds.specs.declared.request.Request.TheVariants.{Error, Clear, End, Priority, Fatal, FenceClear, Unnamed}
use Rattle.profile.specs.Entry.{aligned, walkable}
use Rattle.profile.specs.Tables.{entry_words, peer_words, interrupt_words, state_words, fence_words, window_words, segment_count, sized}
use Rattle.profile.specs.Step.{access_formed, dma_formed, formed}
use Rattle.profile.proofs.Case.{read, write, load, store}

pub record Limit : Type 0 where
  pub gives : Bool
  pub good : Bool

-- the length of table k, counted in 01's order, one less, one more
abbrev pub same : (i n : ℕ) → ℕ
same i n = n

abbrev pub less : (k i n : ℕ) → ℕ
less k i n = cond (eqb i k) (n - 1) n

abbrev pub more : (k i n : ℕ) → ℕ
more k i n = cond (eqb i k) (n + 1) n

abbrev pub lent : (n m r memory : ℕ) → (ℕ → ℕ → ℕ) → Bool → Limit
lent n m r w f x = record {
  gives = sized (record { pes = n; interrupts = m; requesters = r })
      (record {
        requesters = f 0 r;
        entries = f 1 (n * entry_words);
        memory = f 2 w;
        peers = f 3 (n * peer_words);
        interrupts = f 4 (m * interrupt_words);
        windows = f 5 window_words;
        segments = f 6 segment_count;
        state = f 7 (n * state_words + fence_words);
      });
  good = x;
}

-- the most of everything, in digits
abbrev pub most : Limit
most = record {
  gives = sized (record { pes = 256; interrupts = 4096; requesters = 65536 })
      (record { requesters = 65536; entries = 2048; memory = 1048576; peers = 1024; interrupts = 16384; windows = 67; segments = 256; state = 1025 });
  good = true;
}

abbrev pub asked : Request → Bool → Limit
asked q x = record { gives = formed q; good = x }

abbrev pub based : (base table levels : ℕ) → Bool → Limit
based b t l x = record { gives = walkable (record { base = b; levels = l; table = t; page = 1 }); good = x }

abbrev pub walked : (table levels : ℕ) → Bool → Limit
walked t l x = based 0 t l x

unfoldable pub sizes : List Limit
sizes =
    -- N
    lent 0 8 8 0 same false
    ∷ lent 1 8 8 0 same true
    ∷ lent 256 8 8 0 same true
    ∷ lent 257 8 8 0 same false
    -- M
    ∷ lent 4 0 8 0 same true
    ∷ lent 4 4096 8 0 same true
    ∷ lent 4 4097 8 0 same false
    -- R
    ∷ lent 4 8 0 0 same false
    ∷ lent 4 8 1 0 same true
    ∷ lent 4 8 65536 0 same true
    ∷ lent 4 8 65537 0 same false
    -- memory
    ∷ lent 4 8 8 1048576 same true
    ∷ lent 4 8 8 1048577 same false
    -- all at their limits
    ∷ lent 1 0 1 0 same true
    ∷ most
    ∷ []

-- every table but memory, which has no length of its own
abbrev pub others : List ℕ
others = 0 ∷ 1 ∷ 3 ∷ 4 ∷ 5 ∷ 6 ∷ 7 ∷ []

unfoldable pub lengths : List Limit
lengths =
    lent 4 8 8 100 same true
    ∷ map (λ k. lent 4 8 8 100 (less k) false) others
    ++ map (λ k. lent 4 8 8 100 (more k) false) others

-- table codes and levels, the bits of all indexes together, and the base
unfoldable pub depths : List Limit
depths =
    walked 31 1 true
    ∷ walked 32 1 false
    ∷ walked 1 5 true
    ∷ walked 1 6 false
    ∷ walked 21 2 true
    ∷ walked 22 2 false
    ∷ walked 4 5 false
    ∷ based 0x1000 1 5 true
    ∷ based 0x800 1 5 false
    ∷ based 0xFFFFFFFFFFFFF001 1 1 false
    ∷ based (2 ^ 42) 31 1 true
    ∷ based (2 ^ 41) 31 1 false
    ∷ []

unfoldable pub forms : List Limit
forms =
    -- a DMA: 1 to 4,096 bytes
    asked (read 5 0x3000 0) false
    ∷ asked (read 5 0x3000 1) true
    ∷ asked (read 5 0x3000 4096) true
    ∷ asked (read 5 0x3000 4097) false
    ∷ asked (write 5 0 4096 0) true
    ∷ asked (write 5 0 (2 ^ 64 - 1) 0) false
    -- the end of a block
    ∷ asked (read 5 0x3001 4095) true
    ∷ asked (read 5 0x3001 4096) false
    ∷ asked (read 5 0x3FFC 4) true
    ∷ asked (read 5 0x3FFC 5) false
    ∷ asked (read 5 0x3FFF 1) true
    ∷ asked (read 5 0x3FFF 2) false
    ∷ asked (write 5 (2 ^ 64 - 1) 1 0) true
    ∷ asked (write 5 (2 ^ 64 - 1) 2 0) false
    -- widths, and the address a multiple
    ∷ asked (load 8 0) false
    ∷ asked (load 7 1) true
    ∷ asked (load 6 2) true
    ∷ asked (load 6 3) false
    ∷ asked (load 4 4) true
    ∷ asked (load 8 8) true
    ∷ asked (load 16 16) false
    ∷ asked (load 7 2) false
    ∷ asked (load 6 4) false
    ∷ asked (load 4 8) false
    ∷ asked (load (2 ^ 64 - 8) 8) true
    ∷ asked (store 8 0) false
    ∷ asked (store 7 1) true
    ∷ asked (store 6 2) true
    ∷ asked (store 6 3) false
    ∷ asked (store 4 4) true
    ∷ asked (store 8 8) true
    ∷ asked (store 16 16) false
    ∷ asked (store 7 2) false
    -- priorities; words that name no request; all other requests are well formed
    ∷ asked (Priority 7 0) true
    ∷ asked (Priority 7 255) true
    ∷ asked (Priority 7 256) false
    ∷ asked (Priority 7 (2 ^ 64 - 1)) false
    ∷ asked Unnamed false
    ∷ asked (Error (2 ^ 64 - 1)) true
    ∷ asked (Clear (2 ^ 64 - 1) Mmio) true
    ∷ asked (End (2 ^ 64 - 1)) true
    ∷ asked (Fatal (2 ^ 64 - 1)) true
    ∷ asked FenceClear true
    ∷ []

unfoldable pub limits : List Limit
unfolding sizes lengths depths forms
limits = sizes ++ lengths ++ depths ++ forms

pub limits_hold : map (λ c. c.gives) limits ≡ map (λ c. c.good) limits
unfolding limits sized aligned walkable formed dma_formed access_formed
limits_hold = refl
