-- What an urn gives, what it starts with, and that it leaves no choice: lemmas, for proofs. No contract rests on them.
use Rattle.std.specs.Prelude.{◌≡◌, ℕ, true, ◌↔◌, Some, None, refl}
use Rattle.std.proofs.Common.{sym, ap, ◌∙◌}
use Rattle.std.proofs.lemmas.Bool.{both_ways}
use Rattle.shapes.specs.declared.Shape.{Shape}
use Rattle.shapes.proofs.Balls.{decides_team}
use Rattle.shapes.specs.Teams.{HasTeam}
use Rattle.balls.specs.Sets.{is_in_set, of_shape}
use Rattle.balls.proofs.Laws.{in_shape, lower_once, without_other, without_same}
use Rattle.sources.specs.Sources.{Gave}
use Rattle.urns.specs.Urns.{Decided, UrnGave, UrnHolds, after_giving}
use Rattle.urns.specs.declared.Urn.{Urn}

pub urn_gave : (u : Urn) (pot ball : ℕ) (after : Urn) → UrnGave u pot ball after → Gave UrnHolds u pot ball after
urn_gave u pot ball after h = record {
  of_pot = h.picked.of_pot;
  was_in = h.picked.is_in;
  gone = λ still. both_ways _ (without_same u.balls ball) (sym (ap (λ (v : Urn). is_in_set v.balls ball) h.left) ∙ still);
  others = λ team other.
      let same : is_in_set after.balls team ≡ is_in_set u.balls team = ap (λ (v : Urn). is_in_set v.balls team) h.left ∙ without_other u.balls ball team other in
      (λ now. sym same ∙ now, λ before. same ∙ before);
}

pub decided : Decided
decided u pot (Some a) (Some b) after1 after2 h k =
    let e = lower_once _ _ _ a b h.picked k.picked in (ap Some e, h.left ∙ ap (after_giving u) e ∙ sym k.left)
decided u pot (Some a) None after1 after2 h k = absurd (k.0 a h.picked.of_pot h.picked.is_in)
decided u pot None (Some b) after1 after2 h k = absurd (h.0 b k.picked.of_pot k.picked.is_in)
decided u pot None None after1 after2 h k = (refl, h.1 ∙ sym k.1)

pub shape_teams : (shape : Shape) (team : ℕ) → (is_in_set (of_shape shape) team ≡ true) ↔ HasTeam shape team
shape_teams shape team =
    let same = in_shape shape team in
    let tells = decides_team shape team in
    (λ e. tells.0 (sym same ∙ e), λ h. same ∙ tells.1 h)
