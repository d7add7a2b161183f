-- What is lent is what it goes by.
use Rattle.std.proofs.Common.{◌≡◌, Bor, Option, Some, None, option_map, sym, subst}
use Rattle.std.specs.Prelude.{IfSome}
use Rattle.fkv_session.specs.Sessions.{Sitter}
use Rattle.fkv_straight.specs.Course.{GoesBy}
use Rattle.fkv_straight.proofs.sessions.StraightSession.goes_by.Goals as goal

lent : {X : Type 0} (P : X → Type 0) (lends : Option (Bor X)) (its : Option X) → option_map (λ x. x.now) lends ≡ its → IfSome its P → IfSome lends (λ x. P x.now)
lent P None its same holds = tt
lent P (Some x) its same holds = subst (λ (o : Option _). IfSome o P) (sym same) holds

pub returns : goal.returns
returns c = subst (λ (m : Sitter). IfSome c.as_ref.result (λ its. GoesBy m.seat m.state its.now)) c.self.view_is (lent _ c.as_ref.result c.self.inside.going c.as_ref.ensures.value c.self.invariant)
