use Rattle.std.proofs.Common.{◌≡◌, ◌∙◌, IsErr, IsErrAnd, rules, tests, refl, arith}
use Rattle.std.specs.Result.{result_from_control_flow}
use Rattle.std.proofs.lemmas.Iterator.{YieldsList-from_range}
use Rattle.shapes.proofs.Ranges.{Nth}
use Rattle.balls.specs.Sets.{has_ball}
use Rattle.balls.proofs.Laws.{in_below, lower_at}
use Rattle.balls.proofs.Taken.{handed, taker, told}
use Rattle.balls.proofs.BallSet.with_lower.Goals as goal

found : (c : goal.In_ok-ball) → Nth (has_ball c.args.self.now c.args.pot) c.args.lower 16 c.in_ok-ball.ball
found c =
    told (has_ball c.args.self.now c.args.pot) 16 c.args.lower c.try_fold.result _ _ c.err.ensures.value c.in_ok-ball.was
    (taker (has_ball c.args.self.now c.args.pot) _ _ (λ left x v q k. search (rules, tests)) (λ v r. v ≡ result_from_control_flow r) (λ v a k. k) _ 16 c.args.lower (YieldsList-from_range _ _ _ refl refl)
    (λ e r. IsErr r × IsErrAnd r (λ z. z ≡ e.0)) (λ v e r b k. (e.0, b, handed r e.0 k.1)) c.try_fold.result c.try_fold.ensures.ran)

pub returns : goal.returns
returns c =
    let it = found c in
    record { is_in = it.passes; of_pot = omega (arith, it.below); has_lower = lower_at c.args.self.now c.args.pot c.in_ok-ball.ball it.below ∙ it.before }

pub overflow_mul-result : goal.overflow_mul-result
overflow_mul-result c = let low = in_below c.args.self.now _ (found c).passes in omega (arith, low)

pub overflow_add-result : goal.overflow_add-result
overflow_add-result c = let low = in_below c.args.self.now _ (found c).passes in omega (arith, low)

pub returns-in_err-ball : goal.returns-in_err-ball
returns-in_err-ball c =
    rw c.from_residual.ensures (told (has_ball c.args.self.now c.args.pot) 16 c.args.lower c.try_fold.result _ _ c.err.ensures.value c.in_err-ball.was
    (taker (has_ball c.args.self.now c.args.pot) _ _ (λ left x v q k. search (rules, tests)) (λ v r. v ≡ result_from_control_flow r) (λ v a k. k) _ 16 c.args.lower (YieldsList-from_range _ _ _ refl refl)
    (λ e r. IsErr r × IsErrAnd r (λ z. z ≡ e.0)) (λ v e r b k. (e.0, b, handed r e.0 k.1)) c.try_fold.result c.try_fold.ensures.ran))
