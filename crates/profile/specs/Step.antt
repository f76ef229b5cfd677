-- One request, from its checks to what it leaves: 01, the order of checks of each kind of request.
--     formed q            not reason 2: it depends on the request alone, and words that name no request are never formed; dma_formed a n,
--                         access_formed a w: of a DMA, of a load or store
--     installed_to i a n  02, [7]: the last of the n bytes from system address a is below the installed size i
--     last_test i n t     THE LAST TEST of a DMA of n bytes: a translated address t from which not all bytes are installed is the fault 17, which no
--                         table word makes; the one place where the size is asked for
--     outcome_of p a t n  the outcome of a DMA of PE p by a translation t with n words read: a pass, or the refusal of a fault, which freezes and
--                         carries the word that failed; reached i p q t n: after the last test
--     by_entry i e p q    a DMA of PE p by the entry e that its address picks
--     served c k i e l p q    a DMA of a PE that is not stopped, by the class c of its address; e are the translation entries, l the interrupts, k is M,
--                         i the installed size
--     dma_asked k i e l w p q  a DMA of PE p whose stop word is w
--     accessed h p w d    the answer to a load or store of PE p by its window h and its stop word w; d is that of a PE that is MMIO stopped
--     ask p q             what the request q of PE p comes to, as far as no memory is read; unowned q r: of a request that belongs to nobody, r being the
--                         refusal that it then gets. A fence clear needs no PE, and is not refused; asked q o: by its owner o
--     gated q             a request that is well formed: 18 where the fence stops it, before anybody is looked up
--     checked ok .. q     ALL CHECKS BEFORE THE WALK: reason 1 (not ok), then 2, then 18, then the refusal that nobody gets (3, 10 or 14), then the rest
--     finish i m x        what is left: the walk, the only reader of memory; arrived i p q t: the outcome of a DMA by a translation and its words
--     act n v p e s       effect e at PE p, n being N and v the peers: it writes, and decides nothing; whole n e s: what it does to the word that is no
--                         PE's, the fence word; act_by f o e s: at the owner o, and that alone where it is nobody
--     checked_on f n s q  the checks on a bridge's tables, n being the length of memory
--     decided f m s q     answer and effect
--     answered f m s q    the answer
--     after f m s q       state and interrupts afterwards
-- Assumes nothing.
use Rattle.kinds.specs.Lookup.{Owner, Translated, Route, fault}
use Rattle.std.specs.Prelude.{Bool, true, false, cond, ◌&&◌, ◌||◌, List, ℕ, ◌+◌, ◌%◌, leb, ltb, eqb, length, Ok, Err, Some, None}
use Rattle.kinds.specs.Answer.{refuse}
use Rattle.kinds.specs.declared.outcome.Check.{Check}
use Rattle.kinds.specs.declared.outcome.Check.TheVariants.{Kept, Ready, Walk, Fences}
use Rattle.kinds.specs.Number.{no_word, last_byte}
use Rattle.kinds.specs.Outcome.{kept, passed, failed, done}
use Rattle.kinds.specs.Words.{at}
use Rattle.kinds.specs.declared.answer.Answer.{Answer}
use Rattle.kinds.specs.declared.answer.Answer.TheVariants.{Pass, Ones, Drop}
use Rattle.kinds.specs.declared.answer.Reason.{Reason}
use Rattle.kinds.specs.declared.answer.Reason.TheVariants.{TableLength, BadRequest, DmaStopped, AddressClass, MmioStopped, ErrorMessage, AboveInstalled}
use Rattle.kinds.specs.declared.number.ByteAddress.{ByteAddress}
use Rattle.kinds.specs.declared.number.PeNumber.{PeNumber}
use Rattle.kinds.specs.declared.outcome.Effect.{Effect}
use Rattle.kinds.specs.declared.outcome.Effect.TheVariants.{Keep, Freeze, Release, Interrupt, Fence}
use Rattle.kinds.specs.declared.outcome.Outcome.{Outcome}
use Rattle.kinds.specs.declared.record.Sizes.{Sizes}
use Rattle.kinds.specs.declared.record.TranslationEntry.{TranslationEntry}
use Rattle.kinds.specs.declared.request.AddressClass.TheVariants as class
use Rattle.kinds.specs.declared.request.AddressClass as classes
use Rattle.kinds.specs.declared.request.DmaRequest.{DmaRequest}
use Rattle.kinds.specs.declared.request.Request.{Request}
use Rattle.kinds.specs.declared.request.Request.TheVariants.{Dma, Load, Store, Error, Clear, End, Priority, Fatal, FenceClear, Unnamed}
use Rattle.profile.specs.Tables.{Tables, Live, lengths, sized}
use Rattle.profile.specs.Owner.{owner_in, owner}
use Rattle.profile.specs.Freeze.{stop_word, mmio_stopped, dma_stopped, taken, froze, released}
use Rattle.profile.specs.Fence.{fence_word, fence_to, barred, shut}
use Rattle.profile.specs.Entry.{class_of, half, offset, entry_in, walks, unwalked}
use Rattle.profile.specs.Walk.{Translation, by_pages}
use Rattle.profile.specs.Msi.{holding, interrupt, stored, number32, number64, msi_formed, msi}
use Rattle.profile.specs.Firmware.{on_good, ends, prioritized}
use Rattle.profile.specs.Windows.{route, ones_of}

-- width 1, 2, 4 or 8, and the address a multiple of it
unfoldable pub access_formed : ByteAddress → (width : ℕ) → Bool
access_formed a w = (eqb w 1 || eqb w 2 || eqb w 4 || eqb w 8) && eqb (a.0 % w) 0

-- 1 to 4,096 bytes, all in one block of 4,096
unfoldable pub dma_formed : ByteAddress → (length : ℕ) → Bool
dma_formed a n = leb 1 n && leb n 4096 && leb (a.0 % 4096 + n) 4096

unfoldable pub formed : Request → Bool
formed (Dma q) = dma_formed q.address q.length
formed (Load a w) = access_formed a w
formed (Store a w) = access_formed a w
formed (Error r) = true
formed (Clear p c) = true
formed (End i) = true
formed (Priority i n) = leb n holding
formed (Fatal r) = true
formed FenceClear = true
formed Unnamed = false

unfoldable pub installed_to : (installed : ℕ) → ByteAddress → (length : ℕ) → Bool
installed_to i a n = ltb (last_byte a n).0 i

unfoldable pub last_test : (installed length : ℕ) → Translated → Translated
last_test i n (Ok x) = cond (installed_to i x n) (Ok x) (fault AboveInstalled no_word)
last_test i n (Err e) = Err e

unfoldable pub outcome_of : PeNumber → ByteAddress → Translated → (words : ℕ) → Outcome
outcome_of p a (Ok x) n = passed p x n
outcome_of p a (Err e) n = failed e.reason a n e.word

abbrev pub reached : (installed : ℕ) → PeNumber → DmaRequest → Translated → (words : ℕ) → Outcome
reached i p q t n = outcome_of p q.address (last_test i q.length t) n

unfoldable pub by_entry : (installed : ℕ) → TranslationEntry → PeNumber → DmaRequest → Check
by_entry i e p q = cond (walks e (offset q.address)) (Walk p e q) (Ready p (reached i p q (unwalked e (offset q.address)) 0))

unfoldable pub served : classes.AddressClass → (count installed : ℕ) → (entries interrupts : List ℕ) → PeNumber → DmaRequest → Check
served class.Dma k i e l p q = by_entry i (entry_in e p (half q.address)) p q
served class.Msi32 k i e l p q =
    Ready p (msi k l p q.address (number32 q.address q.«data») (msi_formed q.direction q.address q.length))
served class.Msi64 k i e l p q =
    Ready p (msi k l p q.address (number64 q.address q.«data») (msi_formed q.direction q.address q.length))
served class.Unserved k i e l p q = Ready p (failed AddressClass q.address 0 no_word)

unfoldable pub dma_asked : (count installed : ℕ) → (entries interrupts : List ℕ) → (stop : ℕ) → PeNumber → DmaRequest → Check
dma_asked k i e l w p q = cond (dma_stopped w) (Kept (refuse DmaStopped)) (served (class_of q.address) k i e l p q)

-- a load or store with no window has no PE
unfoldable pub accessed : Route → PeNumber → (stop : ℕ) → Answer → Answer
accessed (Some h) p w stopped = cond (mmio_stopped w) stopped (Pass h.pci p 0)
accessed None p w stopped = stopped

unfoldable pub unowned : Request → Reason → Check
unowned (Dma q) r = Kept (refuse r)
unowned (Load a w) r = Kept (refuse r)
unowned (Store a w) r = Kept (refuse r)
unowned (Error q) r = Kept (refuse r)
unowned (Clear p c) r = Kept (refuse r)
unowned (End i) r = Kept (refuse r)
unowned (Priority i n) r = Kept (refuse r)
unowned (Fatal q) r = Kept (refuse r)
unowned FenceClear r = Fences false
unowned Unnamed r = Kept (refuse r)

-- N, M and R, the installed size, the tables that are read before the walk, and what is written
module _ (z : Sizes) (installed : ℕ) (requesters entries windows segments : List ℕ) (s : Live) where
  unfoldable pub ask : PeNumber → Request → Check
  ask p (Dma q) = dma_asked z.interrupts installed entries s.interrupts (at s.state (stop_word p)) p q
  ask p (Load a w) = Kept (accessed (route windows segments a) p (at s.state (stop_word p)) (Ones MmioStopped (ones_of w)))
  ask p (Store a w) = Kept (accessed (route windows segments a) p (at s.state (stop_word p)) (Drop MmioStopped))
  ask p (Error r) = Ready p (done (Freeze (record { reason = ErrorMessage; value = r; word = no_word }) true))
  ask p (Clear q c) = Ready p (done (Release c))
  ask p (End i) = Ready p (on_good (interrupt s i) (ends i (interrupt s i)))
  ask p (Priority i n) = Ready p (on_good (interrupt s i) (prioritized i n (interrupt s i)))
  ask p (Fatal r) = Fences true
  ask p FenceClear = Fences false
  ask p Unnamed = Kept (refuse BadRequest)

  unfoldable pub asked : Request → Owner → Check
  asked q (Ok p) = ask p q
  asked q (Err r) = unowned q r

  abbrev pub gated : Request → Check
  gated q = cond (barred (at s.state (fence_word z.pes)) q) (Kept (shut q)) (asked q (owner_in z requesters windows segments s.interrupts q))

  unfoldable pub checked : (ok : Bool) → Request → Check
  checked ok q = cond ok (cond (formed q) (gated q) (Kept (refuse BadRequest))) (Kept (refuse TableLength))

abbrev pub arrived : (installed : ℕ) → PeNumber → DmaRequest → Translation → Outcome
arrived i p q t = reached i p q t.result (length t.reads)

unfoldable pub finish : (installed : ℕ) → List ℕ → Check → Outcome
finish i m (Kept a) = kept a
finish i m (Ready p o) = o
finish i m (Walk p e q) = arrived i p q (by_pages m e q.direction (offset q.address))
finish i m (Fences b) = done (Fence b)

unfoldable pub whole : (n : ℕ) → Effect → Live → Live
whole n Keep s = s
whole n (Freeze e b) s = s
whole n (Release c) s = s
whole n (Interrupt i k b) s = s
whole n (Fence b) s = record { state = fence_to n b s.state; interrupts = s.interrupts }

unfoldable pub act : (n : ℕ) → (peers : List ℕ) → PeNumber → Effect → Live → Live
act n v p Keep s = s
act n v p (Freeze e b) s = record { state = froze n (taken b v p) p e s.state; interrupts = s.interrupts }
act n v p (Release c) s = record { state = released c p s.state; interrupts = s.interrupts }
act n v p (Interrupt i k b) s = record { state = s.state; interrupts = stored p i k b s.interrupts }
act n v p (Fence b) s = whole n (Fence b) s

unfoldable pub act_by : Tables → Owner → Effect → Live → Live
act_by f (Ok p) e s = act f.sizes.pes f.peers p e s
act_by f (Err r) e s = whole f.sizes.pes e s

abbrev pub checked_on : Tables → (memory : ℕ) → Live → Request → Check
checked_on f n s q =
    checked f.sizes f.installed f.requesters f.entries f.windows f.segments s (sized f.sizes (lengths f n s)) q

abbrev pub decided : Tables → List ℕ → Live → Request → Outcome
decided f m s q = finish f.installed m (checked_on f (length m) s q)

abbrev pub answered : Tables → List ℕ → Live → Request → Answer
answered f m s q = (decided f m s q).answer

abbrev pub after : Tables → List ℕ → Live → Request → Live
after f m s q = act_by f (owner f s q) (decided f m s q).effect s
