-- Effects stay in the order of their calls: each step that adds an effect, or a line.
use Rattle.std.proofs.Common.{◌≡◌, inl, inr, ℕ, ◌∙◌, Bool, true, false, cond, Some, None, List, [], ◌∷◌, ◌++◌, refl, sym, ap, subst, arith, true≢false}
use Rattle.std.specs.Prelude.{◌&&◌, nat_eq, is_some}
use Rattle.std.proofs.lemmas.Bool.Decides.{nat_tests}
use Rattle.fkv_map.specs.declared.operations.Op.{Op}
use Rattle.fkv_map.specs.declared.operations.Reply.{Reply}
use Rattle.law_log.specs.Trace.{Effect, TraceLine, CallsUpdate, RefusesUpdate, GivesResult, CallsRead, AnswersRead, IsIn, called_by, called_as, HasUpdate, HasReply, OrdersCalls}
use Rattle.law_log.specs.Ghosts.{Ghosts}
use Rattle.law_log.specs.Enabled.{IsLineEnabled}
use Rattle.law_log.proofs.Lists.{in_more, in_place, in_behind, place_of}

pub reply_more : (effects newer : List Effect) (session serial : ℕ) (reply : Reply) → HasReply effects session serial reply → HasReply (newer ++ effects) session serial reply
reply_more effects newer session serial reply has = record {
  update = record { effect = has.update.effect; is_in = in_more has.update.effect newer effects has.update.is_in; its_session = has.update.its_session; its_serial = has.update.its_serial };
  its_reply = has.its_reply;
}

-- what has taken effect is called
pub none_called : (effects : List Effect) (trace : List TraceLine) → OrdersCalls effects trace → (session serial : ℕ) → HasUpdate effects session serial → called_as trace session serial ≡ None → ⊥
none_called effects trace orders session serial has none =
    true≢false (sym (ap is_some (orders.called has.effect has.is_in)) ∙ ap is_some (ap (λ s. called_as trace s has.effect.entry.serial.0) has.its_session ∙ ap (λ n. called_as trace session n) has.its_serial ∙ none))

-- ---- one more effect
pub orders_effect : (effects : List Effect) (trace : List TraceLine) (effect : Effect) → OrdersCalls effects trace → called_as trace effect.entry.session effect.entry.serial.0 ≡ Some effect.entry.op
    → (HasUpdate effects effect.entry.session effect.entry.serial.0 → ⊥) → OrdersCalls (effect ∷ effects) trace
orders_effect effects trace effect orders called none_yet = record {
  given = λ session serial reply is_in. reply_more effects (effect ∷ []) session serial reply (orders.given session serial reply is_in);
  once = λ newer older it is has. elim (place_of effect it effects newer older is) [
    | inl front ↦ none_yet (subst (λ e. HasUpdate effects e.entry.session e.entry.serial.0) (sym front.its) (subst (λ es. HasUpdate es it.entry.session it.entry.serial.0) (sym front.all_older) has))
    | inr behind ↦ orders.once behind.fewer older it behind.place has
  ];
  called = λ it is_in. elim is_in [
    | inl same ↦ subst (λ e. called_as trace e.entry.session e.entry.serial.0 ≡ Some e.entry.op) same called
    | inr older ↦ orders.called it older
  ];
  in_order = λ newer older it later earlier op is was. elim (place_of effect it effects newer older is) [
    | inl front ↦ λ session serial reply is_in. subst (λ es. HasUpdate es session serial) front.all_older
        (orders.given session serial reply (in_behind (GivesResult session serial reply) (CallsUpdate it.entry.session it.entry.serial.0 op) trace later earlier was is_in)).update
    | inr behind ↦ orders.in_order behind.fewer older it later earlier op behind.place was
  ];
}

-- ---- one more line
-- a line leaves an update as called that has taken effect
still_called : (g : Ghosts) (line : TraceLine) → IsLineEnabled g line → OrdersCalls g.log.history g.trace → (effect : Effect) → IsIn effect g.log.history
    → called_by line effect.entry.session effect.entry.serial.0 (called_as g.trace effect.entry.session effect.entry.serial.0) ≡ Some effect.entry.op
still_called g (CallsUpdate s n op) enabled orders effect is_in = by_test (nat_eq s effect.entry.session && nat_eq n effect.entry.serial.0) refl
  where
    by_test : (t : Bool) → (nat_eq s effect.entry.session && nat_eq n effect.entry.serial.0) ≡ t → cond t (Some op) (called_as g.trace effect.entry.session effect.entry.serial.0) ≡ Some effect.entry.op
    by_test true is =
        let same : (s ≡ effect.entry.session) × (n ≡ effect.entry.serial.0) = (grind (arith, nat_tests, is), grind (arith, nat_tests, is)) in
        absurd (none_called g.log.history g.trace orders s n (record { effect = effect; is_in = is_in; its_session = sym same.0; its_serial = sym same.1 }) enabled)
    by_test false is = orders.called effect is_in
still_called g (RefusesUpdate s n) enabled orders effect is_in = by_test (nat_eq s effect.entry.session && nat_eq n effect.entry.serial.0) refl
  where
    by_test : (t : Bool) → (nat_eq s effect.entry.session && nat_eq n effect.entry.serial.0) ≡ t → cond t None (called_as g.trace effect.entry.session effect.entry.serial.0) ≡ Some effect.entry.op
    by_test true is =
        let same : (s ≡ effect.entry.session) × (n ≡ effect.entry.serial.0) = (grind (arith, nat_tests, is), grind (arith, nat_tests, is)) in
        absurd (enabled (record { effect = effect; is_in = is_in; its_session = sym same.0; its_serial = sym same.1 }))
    by_test false is = orders.called effect is_in
still_called g (GivesResult s n reply) enabled orders effect is_in = orders.called effect is_in
still_called g (CallsRead reader key) enabled orders effect is_in = orders.called effect is_in
still_called g (AnswersRead reader reply) enabled orders effect is_in = orders.called effect is_in

-- an update that is called now has not taken effect
pub none_before : (g : Ghosts) (line : TraceLine) → IsLineEnabled g line → OrdersCalls g.log.history g.trace → (session serial : ℕ) (op : Op) → line ≡ CallsUpdate session serial op → HasUpdate g.log.history session serial → ⊥
none_before g line enabled orders session serial op is has = none_called g.log.history g.trace orders session serial has (subst (IsLineEnabled g) is enabled)

pub orders_line : (g : Ghosts) (line : TraceLine) → IsLineEnabled g line → OrdersCalls g.log.history g.trace → OrdersCalls g.log.history (line ∷ g.trace)
orders_line g line enabled orders = record {
  given = λ session serial reply is_in. elim is_in [
    | inl same ↦ subst (IsLineEnabled g) same enabled
    | inr older ↦ orders.given session serial reply older
  ];
  once = orders.once;
  called = λ effect is_in. still_called g line enabled orders effect is_in;
  in_order = λ newer older effect later earlier op is was. elim (place_of line (CallsUpdate effect.entry.session effect.entry.serial.0 op) g.trace later earlier was) [
    | inl front ↦ absurd (none_before g line enabled orders effect.entry.session effect.entry.serial.0 op front.its
        (record { effect = effect; is_in = in_place effect g.log.history newer older is; its_session = refl; its_serial = refl }))
    | inr behind ↦ orders.in_order newer older effect behind.fewer earlier op is behind.place
  ];
}
