use Rattle.std.proofs.lemmas.Result.{IfOk-weaker}
use Rattle.rsx_live.proofs.Seated.{again}
use Rattle.rsx_app.proofs.threads.serve_order.Goals as goal

pub returns : goal.returns
returns g c =
    let back = c.in_ok-back.back in
    IfOk-weaker c.put_together.result _ _
    (λ r is. again c.args.started r.0 (record { live = c.args.started.live; taps = back.answer.taps; seats = back.seats }) c.requires is c.in_ok-back.ensures.taps c.in_ok-back.ensures.seats)
    c.put_together.ensures
