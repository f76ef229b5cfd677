-- A run over words is the run of the operations that the words name.
--     cached_run_of       THE THEOREM
-- Assumes nothing.
use Rattle.request_words.specs.Run.{served}
use Rattle.request_words.proofs.RunLaws.{room, ran_on-live, ran_on-answers}
use Rattle.cache.specs.Cache.{cached_answer, cached_after}
use Rattle.cache_words.specs.CachedRun.{CachedRunOf}
use Rattle.cache_words.specs.Operations.{operation_at}
use Rattle.cache_words.proofs.OperationsLaws.{operation-back}

pub cached_run_of : CachedRunOf
cached_run_of = record {
  leaves = λ f x w l. ran_on-live (cached_after f) (cached_answer f) (operation_at w) x l (served w l);
  answers = λ f x w l. ran_on-answers (cached_after f) (cached_answer f) (operation_at w) x l (served w l) (room w l);
  named = λ v k e q h y. operation-back v k e q h y;
}
