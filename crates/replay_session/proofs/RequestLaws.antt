-- What a request on the parts in use cites.
--     requested       a request handled on those parts is handled as the session's, and no other word is changed
-- Assumes nothing.
use mathlib.Core.Path.{◌≡◌, ap, ◌∙◌}
use mathlib.Core.List.{List}
use Prim.Native.Nat.{ℕ, ◌*◌}
use native.Mathlib.Nat.{mul-one}
use lib.ListN.{take}
use Rattle.kinds.specs.declared.answer.Numbers.{Numbers}
use Rattle.kinds.specs.declared.request.Request.{Request}
use Rattle.tables.specs.Tables.{tables, live}
use Rattle.table_lists.specs.Once.{once}
use Rattle.profile.specs.Tables.{Live, entry_words, peer_words, window_words, segment_count}
use Rattle.replay_tables.specs.Lent.{lent, in_use}
use Rattle.replay_tables.specs.declared.Extent.{Extent}
use Rattle.replay_text.specs.Results.{says}
use Rattle.replay_session.specs.Promise.{Requested, ServedParts}
use Rattle.replay_text.specs.Session.{reply_to}
use Rattle.replay_text.specs.SessionTables.{replay_installed}

-- `serve_lists`
pub requested : (x : Extent) (q e m p n w g t : List ℕ) (request : Request) {r : Numbers} {qs es ms ps ws gs ns ts : List ℕ} {there : ℕ} →
    ServedParts (tables x.sizes replay_installed qs es ps ws gs) ms (live t n) request r (live ts ns) →
    there ≡ once x.sizes.pes →
    qs ≡ take (x.sizes.requesters * 1) q →
    es ≡ take (x.sizes.pes * entry_words) e →
    ms ≡ take (x.memory * 1) m →
    ps ≡ take (x.sizes.pes * peer_words) p →
    ws ≡ take (there * window_words) w →
    gs ≡ take (there * segment_count) g →
    Requested (lent x q e m p n w g t) request (says r) (lent x q e m p ns w g ts)
unfolding reply_to
requested x q e m p n w g t request {r} {qs} {es} {ms} {ps} {ws} {gs} {ns} {ts} h z b c d k u v =
    let b' : qs ≡ take x.sizes.requesters q = b ∙ rw mul-one in
    let d' : ms ≡ take x.memory m = d ∙ rw mul-one in
    let whole : ServedParts (in_use (lent x q e m p n w g t)).tables (in_use (lent x q e m p n w g t)).memory (live t n) request r (live ts ns) =
    rw (b', c, d', k, u, v, z) at h in
    (ap says whole.answers, ap (λ (s : Live). lent x q e m p s.interrupts w g s.state) whole.leaves)
