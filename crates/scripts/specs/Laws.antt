-- What a script holds and gives: lemmas, for the proofs of laws. No contract rests on them.
use Rattle.std.specs.Prelude.{◌≡◌, ℕ, ◌%◌, ◌<◌, true, ◌↔◌, List, Some, None, Option, ◌≢◌, slice_index_or, refl}
use Rattle.std.proofs.Common.{sym, ap, subst, ◌∙◌, inl, inr, arith}
use Rattle.std.proofs.lemmas.Bool.{both_ways, cases_order}
use Rattle.shapes.specs.declared.Shape.{Shape}
use Rattle.shapes.specs.Teams.{balls_of, pot_of}
use Rattle.shapes.proofs.Balls.{decides_team, team_pot}
use Rattle.balls.specs.declared.BallSet.{BallSet}
use Rattle.balls.specs.Sets.{is_in_set, without}
use Rattle.balls.proofs.Laws.{in_shape, without_same, without_other}
use Rattle.sources.specs.Sources.{Gave}
use Rattle.scripts.specs.declared.Script.{Script}
use Rattle.scripts.specs.Scripts.{At, Decided, FirstIn, FirstOf, HasOrder, HoldsTeams, ScriptAnswers, ScriptHolds, Scripted, Stands, row_of, script_of, without_ball}

-- a place has one ball
at_same : (row : List ℕ) (pot place one two : ℕ) → Stands row pot place one → Stands row pot place two → one ≡ two
at_same row pot place one two a b = let p = a.of_pot in let q = b.of_pot in let x = a.ball in let y = b.ball in omega arith

first_same : (row : List ℕ) (balls : BallSet) (pot one two : ℕ) → FirstOf row balls pot one → FirstOf row balls pot two → one ≡ two
first_same row balls pot one two a b =
    elim (cases_order a.place b.place) [
      | inl e ↦ at_same row pot b.place one two (subst (λ (p : ℕ). Stands row pot p one) e a.at) b.at
      | inr (inl l) ↦ absurd (b.none_before a.place one l a.at a.is_in)
      | inr (inr l) ↦ absurd (a.none_before b.place two l b.at b.is_in)
    ]

-- the first that is in is held
first_held : (s : Script) (pot team : ℕ) → FirstIn s pot team → ScriptHolds s team
first_held s pot team f = (f.is_in, (f.place, subst (λ (p : ℕ). At s p f.place team) (sym f.at.of_pot) f.at))

pub decided : Decided
decided s pot (Some one) (Some two) t u a b =
    let e = first_same _ s.balls pot one two a.0 b.0 in (ap Some e, a.1 ∙ ap (without_ball s) e ∙ sym b.1)
decided s pot (Some one) None t u a b = absurd (b.0 one a.0.at.of_pot (first_held s pot one a.0))
decided s pot None (Some two) t u a b = absurd (a.0 two b.0.at.of_pot (first_held s pot two b.0))
decided s pot None None t u a b = (refl, a.1 ∙ sym b.1)

-- only the ball that is taken out goes
others_held : (s : Script) (ball team : ℕ) → (team ≢ ball) → ScriptHolds (without_ball s ball) team ↔ ScriptHolds s team
others_held s ball team ne = let e = without_other s.balls ball team ne in (λ h. (sym e ∙ h.0, h.1), λ h. (e ∙ h.0, h.1))

pub gave : (s : Script) (pot ball : ℕ) (after : Script) → ScriptAnswers s pot (Some ball) after → Gave ScriptHolds s pot ball after
gave s pot ball after a = record {
  of_pot = a.0.at.of_pot;
  was_in = first_held s pot ball a.0;
  gone = λ h. both_ways (is_in_set (without s.balls ball) ball) (without_same s.balls ball) (subst (λ (t : Script). is_in_set t.balls ball ≡ true) a.1 h.0);
  others = λ team ne. subst (λ (t : Script). ScriptHolds t team ↔ ScriptHolds s team) (sym a.1) (others_held s ball team ne);
}

-- an order of a pot's balls names each of them
named : (balls pot team : ℕ) (o : Option (List ℕ)) → HasOrder balls o → pot_of team ≡ pot → team % 16 < balls → (place : ℕ) × Stands (row_of o) pot place team
named balls pot team (Some order) h e l =
    let b = h.is_order.each_ball (team % 16) l in
    (b.0, record { within = let x = b.1 in let y = h.few in omega arith; of_pot = e; ball = b.2 })
named balls pot team None h e l = absurd h.is_order

pub holds_teams : (shape : Shape) (orders : List (Option (List ℕ))) → Scripted shape orders → HoldsTeams shape (script_of shape orders)
holds_teams shape orders z team = (
  λ h. (decides_team shape team).0 (sym (in_shape shape team) ∙ h.0),
  λ p. (
    in_shape shape team ∙ (decides_team shape team).1 p,
    named (balls_of shape (pot_of team)) (pot_of team) team (slice_index_or orders (pot_of team) None) (z.ordered (pot_of team) (team_pot shape team p)) refl p.1,
  ),
)
