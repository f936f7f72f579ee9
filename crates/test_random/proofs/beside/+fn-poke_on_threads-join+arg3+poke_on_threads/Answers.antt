use denote.Exit.{no}
use denote.Param.Send.{arg_send, param_send}
use Rattle.test_random.proofs.Crosses.{seat, work}
use Rattle.test_random.proofs.beside.+fn-poke_on_threads-join+arg3+poke_on_threads.Goals as goal

pub join-other-requires-send-F : goal.join-other-requires-send-F
join-other-requires-send-F g t c κs within = param_send 1 _ (arg_send _ no _ (work _ _ _ _ _))

pub join-other-requires-send-A : goal.join-other-requires-send-A
join-other-requires-send-A g t c κs within = param_send 3 _ (arg_send _ no _ seat)
