-- Theorems of specs/SessionIsolation.antt.
--     session-isolation   THE THEOREM
-- Assumes nothing.
use Rattle.std.specs.Prelude.{◌≡◌, Bool, true, ℕ, Ok, Err}
use Rattle.std.proofs.Math.Path.{refl}
use Rattle.std.proofs.Common.{sym, ap, ◌∙◌}
use mathlib.Core.List.{List, [], ◌∷◌, map}
use Rattle.kinds.proofs.Tests.{by_cases, clash}
use Rattle.kinds.specs.declared.number.PeNumber.{PeNumber}
use Rattle.isolation.specs.Isolation.{machine}
use Rattle.isolation.proofs.Isolation.{isolation}
use Rattle.isolation.specs.Machine.{seen, end}
use Rattle.replay_text.specs.Results.{Parsed}
use Rattle.replay_text.specs.declared.Line.TheVariants.{Size, Set, Request as RequestLine}
use Rattle.profile.specs.Agree.{belongs}
use Rattle.profile.specs.Step.{after}
use Rattle.profile.specs.Tables.{Tables, Live}
use Rattle.replay_text.specs.SessionTables.{Session}
use Rattle.replay_text.specs.Session.{reply_to, after_line}
use Rattle.replay_text.specs.SessionIsolation.{SessionIsolation, bridge_in, lines_left, own_replies, requests_in, requests_only, saying}

module _ (G : PeNumber → Bool) (f : Tables) (m : List ℕ) where
  abbrev having : Live → Session
  having v = record { tables = f; memory = m; live = v }

  own-replies : (v : Live) (l : List Parsed) → requests_only l ≡ true → own_replies G (having v) l ≡ map saying (seen (machine G f m) v (requests_in l))
  unfolding requests_only requests_in own_replies reply_to after_line
  own-replies v [] h = refl
  own-replies v (Ok (Size n w r x) ∷ l) h = clash h refl
  own-replies v (Ok (Set t i x) ∷ l) h = clash h refl
  own-replies v (Ok (RequestLine q) ∷ l) h =
      let rest = own-replies (after f m v q) l h in
      by_cases (belongs G f v q) (λ o. rw (o, rest)) (λ o. rw (o, rest))
  own-replies v (Err e ∷ l) h = own-replies v l h

  lines_left_lem : (v : Live) (l : List Parsed) → requests_only l ≡ true → lines_left (having v) l ≡ having (end (after f m) v (requests_in l))
  unfolding requests_only requests_in lines_left after_line
  lines_left_lem v [] h = refl
  lines_left_lem v (Ok (Size n w r x) ∷ l) h = clash h refl
  lines_left_lem v (Ok (Set t i x) ∷ l) h = clash h refl
  lines_left_lem v (Ok (RequestLine q) ∷ l) h = lines_left_lem (after f m v q) l h
  lines_left_lem v (Err e ∷ l) h = lines_left_lem v l h

pub session-isolation : SessionIsolation
session-isolation = record {
  isolated = λ G s t c v l k h g e.
      let both = isolation.isolated G (bridge_in s) (bridge_in t) c v (requests_in l) (requests_in k) e in
      let x = lines_left_lem G s.tables s.memory s.live l h in
      let y = lines_left_lem G t.tables t.memory t.live k g in (
        own-replies G s.tables s.memory s.live l h ∙ ap (map saying) both.0 ∙ sym (own-replies G t.tables t.memory t.live k g),
        rw (x, y) both.1,
        rw (x, y) both.2,
      );
}
