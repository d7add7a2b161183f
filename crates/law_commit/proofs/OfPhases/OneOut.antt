-- At most one action that stores a phase is anywhere: how a step moves it.
use Rattle.std.proofs.Common.{◌≡◌, ◌≢◌, ◌⊎◌, inl, inr, ℕ, ◌∙◌, List, [], ◌∷◌, zero, suc, refl, sym, ap, subst}
use Rattle.std.specs.Prelude.{Option, Some, None, slice_get, slice_set}
use Rattle.fkv_plane.specs.declared.actions.Action.{Action}
use Rattle.fkv_plane.specs.Plane.{action_at, found_action}
use Rattle.fkv_epoch.proofs.Shown.{item_spared, same_or}
use Rattle.law_refine.specs.Below.fkv_keeper.Keeping.{KeeperState}
use Rattle.law_refine.specs.Below.fkv_session.Sessions.{SessionState}
use Rattle.law_commit.specs.Phases.Staged.{Holder, InSlot, OnlyOut, WithKeeper, WithSession, hand_found, held_at, keeper_hand, phase_in, session_hand}

-- ---- what moves
-- none is there that wasn't
pub fewer : {out after : Holder → Option Action} {its : Option Action} → OnlyOut out its → ((holder : Holder) (a : Action) → after holder ≡ Some a → out holder ≡ Some a) → OnlyOut after its
fewer only less = record { its_own = λ holder a is. only.its_own holder a (less holder a is); once = λ one other a b is and. only.once one other a b (less one a is) (less other b and) }

-- who has it drops it
pub dropped : {out after : Holder → Option Action} {its : Option Action} (from : Holder) (had : Action) → OnlyOut out its → out from ≡ Some had → ((holder : Holder) (a : Action) → after holder ≡ Some a → (out holder ≡ Some a) × (holder ≢ from))
    → OnlyOut after None
dropped from had only has less = record {
  its_own = λ holder a is. absurd ((less holder a is).1 (only.once holder from a had (less holder a is).0 has));
  once = λ one other a b is and. absurd ((less one a is).1 (only.once one from a had (less one a is).0 has));
}

-- it goes from one to another
pub taken : {out after : Holder → Option Action} {its : Option Action} (from to : Holder) → OnlyOut out its
    → ((holder : Holder) (a : Action) → after holder ≡ Some a → ((holder ≡ to) × (out from ≡ Some a)) ⊎ ((out holder ≡ Some a) × (holder ≢ from))) → OnlyOut after its
taken {out} {after} {its} from to only moves = record {
  its_own = λ holder a is. elim (moves holder a is) [ inl there ↦ only.its_own from a there.1 | inr here ↦ only.its_own holder a here.0 ];
  once = λ one other a b is and. elim (moves one a is) [
    | inl there ↦ elim (moves other b and) [ inl too ↦ there.0 ∙ sym too.0 | inr here ↦ absurd (here.1 (only.once other from b a here.0 there.1)) ]
    | inr here ↦ elim (moves other b and) [ inl there ↦ absurd (here.1 (only.once one from a b here.0 there.1)) | inr too ↦ only.once one other a b here.0 too.0 ]
  ];
}

-- one is put where none was
pub put : {out after : Holder → Option Action} {its : Option Action} (at : Holder) → OnlyOut out None → ((holder : Holder) (a : Action) → after holder ≡ Some a → ((holder ≡ at) × (Some a ≡ its)) ⊎ (out holder ≡ Some a)) → OnlyOut after its
put {out} at only moves = record {
  its_own = λ holder a is. elim (moves holder a is) [ inl there ↦ there.1 | inr was ↦ none_was holder a was ];
  once = λ one other a b is and. elim (moves one a is) [
    | inl there ↦ elim (moves other b and) [ inl too ↦ there.0 ∙ sym too.0 | inr was ↦ none_was other b was ]
    | inr was ↦ none_was one a was
  ];
}
  where
    none_was : {X : Type 0} (holder : Holder) (a : Action) → out holder ≡ Some a → X
    none_was holder a was = let clash : Some a ≡ None = only.its_own holder a was in cc

-- ---- items of the lists
-- where an item of a list is set it is that one, or there is none
set_there : {X : Type 0} (xs : List X) (i : ℕ) (x : X) → (slice_get (slice_set xs i x) i ≡ Some x) ⊎ (slice_get (slice_set xs i x) i ≡ None)
set_there [] i x = inr refl
set_there (y ∷ ys) zero x = inl refl
set_there (y ∷ ys) (suc i) x = set_there ys i x

no_phase : {X : Type 0} (a : Action) → phase_in None ≡ Some a → X
no_phase a e = cc

-- a session's hand, where that of one session is set
pub hand_set : (sessions : List SessionState) (i j : ℕ) (m : SessionState) (a : Action) → phase_in (hand_found (slice_get (slice_set sessions i m) j)) ≡ Some a
    → ((j ≡ i) × (phase_in (session_hand m) ≡ Some a)) ⊎ ((j ≢ i) × (phase_in (hand_found (slice_get sessions j)) ≡ Some a))
hand_set sessions i j m a is = elim (same_or j i) [
  | inl same ↦ inl (same, here same)
  | inr other ↦ inr (other, ap (λ (x : Option SessionState). phase_in (hand_found x)) (sym (item_spared sessions i j m other)) ∙ is)
]
  where
    here : j ≡ i → phase_in (session_hand m) ≡ Some a
    here same =
        let at : phase_in (hand_found (slice_get (slice_set sessions i m) i)) ≡ Some a = subst (λ (x : ℕ). phase_in (hand_found (slice_get (slice_set sessions i m) x)) ≡ Some a) same is in
        elim (set_there sessions i m) [
          | inl there ↦ ap (λ (x : Option SessionState). phase_in (hand_found x)) (sym there) ∙ at
          | inr none ↦ no_phase a (ap (λ (x : Option SessionState). phase_in (hand_found x)) (sym none) ∙ at)
        ]

-- and the action of a slot
pub action_set : (actions : List (Option Action)) (slot j : ℕ) (its : Option Action) (a : Action) → phase_in (action_at (slice_set actions slot its) j) ≡ Some a
    → ((j ≡ slot) × (phase_in its ≡ Some a)) ⊎ ((j ≢ slot) × (phase_in (action_at actions j) ≡ Some a))
action_set actions slot j its a is = elim (same_or j slot) [
  | inl same ↦ inl (same, here same)
  | inr other ↦ inr (other, ap (λ (x : Option (Option Action)). phase_in (found_action x)) (sym (item_spared actions slot j its other)) ∙ is)
]
  where
    here : j ≡ slot → phase_in its ≡ Some a
    here same =
        let at : phase_in (action_at (slice_set actions slot its) slot) ≡ Some a = subst (λ (x : ℕ). phase_in (action_at (slice_set actions slot its) x) ≡ Some a) same is in
        elim (set_there actions slot its) [
          | inl there ↦ ap (λ (x : Option (Option Action)). phase_in (found_action x)) (sym there) ∙ at
          | inr none ↦ no_phase a (ap (λ (x : Option (Option Action)). phase_in (found_action x)) (sym none) ∙ at)
        ]

-- ---- what a session's step moves, by its hand
module _ (actions : List (Option Action)) (sessions : List SessionState) (keeper : KeeperState) (i : ℕ) where
  -- a reply empties it
  pub session_empties : (m : SessionState) → session_hand m ≡ None → (holder : Holder) (a : Action) → held_at actions (slice_set sessions i m) keeper holder ≡ Some a → (held_at actions sessions keeper holder ≡ Some a) × (holder ≢ WithSession i)
  session_empties m none (InSlot slot) a is = (is, λ e. cc)
  session_empties m none WithKeeper a is = (is, λ e. cc)
  session_empties m none (WithSession j) a is = elim (hand_set sessions i j m a is) [
    | inl here ↦ no_phase a (ap phase_in (sym none) ∙ here.1)
    | inr there ↦ (there.1, λ e. there.0 (let same : j ≡ i = cc in same))
  ]

  -- one that is set again is the same
  pub session_same : (s : SessionState) → slice_get sessions i ≡ Some s → (holder : Holder) (a : Action) → held_at actions (slice_set sessions i s) keeper holder ≡ Some a → held_at actions sessions keeper holder ≡ Some a
  session_same s got (InSlot slot) a is = is
  session_same s got WithKeeper a is = is
  session_same s got (WithSession j) a is = elim (hand_set sessions i j s a is) [
    | inl here ↦ subst (λ (x : ℕ). phase_in (hand_found (slice_get sessions x)) ≡ Some a) (sym here.0) (ap (λ (x : Option SessionState). phase_in (hand_found x)) got ∙ here.1)
    | inr there ↦ there.1
  ]

  -- it puts what is no phase
  pub session_put : (m first : SessionState) (slot : ℕ) (action : Action) → session_hand m ≡ None → phase_in (Some action) ≡ None → (holder : Holder) (a : Action)
      → held_at (slice_set actions slot (Some action)) (slice_set sessions i m) keeper holder ≡ Some a → held_at actions (slice_set sessions i first) keeper holder ≡ Some a
  session_put m first slot action none puts (InSlot j) a is = elim (action_set actions slot j (Some action) a is) [
    | inl here ↦ (let clash : None ≡ Some a = sym puts ∙ here.1 in cc)
    | inr there ↦ there.1
  ]
  session_put m first slot action none puts WithKeeper a is = is
  session_put m first slot action none puts (WithSession j) a is = elim (hand_set sessions i j m a is) [
    | inl here ↦ no_phase a (ap phase_in (sym none) ∙ here.1)
    | inr there ↦ ap (λ (x : Option SessionState). phase_in (hand_found x)) (item_spared sessions i j first there.0) ∙ there.1
  ]

  -- it takes what is in a slot
  pub session_takes : (m first : SessionState) (slot : ℕ) → ((a : Action) → phase_in (session_hand m) ≡ Some a → phase_in (action_at actions slot) ≡ Some a) → (holder : Holder) (a : Action)
      → held_at (slice_set actions slot None) (slice_set sessions i m) keeper holder ≡ Some a
      → ((holder ≡ WithSession i) × (held_at actions (slice_set sessions i first) keeper (InSlot slot) ≡ Some a)) ⊎ ((held_at actions (slice_set sessions i first) keeper holder ≡ Some a) × (holder ≢ InSlot slot))
  session_takes m first slot takes (InSlot j) a is = elim (action_set actions slot j None a is) [
    | inl here ↦ no_phase a here.1
    | inr there ↦ inr (there.1, λ e. there.0 (let same : j ≡ slot = cc in same))
  ]
  session_takes m first slot takes WithKeeper a is = inr (is, λ e. cc)
  session_takes m first slot takes (WithSession j) a is = elim (hand_set sessions i j m a is) [
    | inl here ↦ inl (ap WithSession here.0, takes a here.1)
    | inr there ↦ inr (ap (λ (x : Option SessionState). phase_in (hand_found x)) (item_spared sessions i j first there.0) ∙ there.1, λ e. cc)
  ]

-- ---- what the keeper's step moves, by its hand
module _ (actions : List (Option Action)) (sessions : List SessionState) (keeper : KeeperState) where
  pub keeper_empties : (m : KeeperState) → keeper_hand m ≡ None → (holder : Holder) (a : Action) → held_at actions sessions m holder ≡ Some a → (held_at actions sessions keeper holder ≡ Some a) × (holder ≢ WithKeeper)
  keeper_empties m none (InSlot slot) a is = (is, λ e. cc)
  keeper_empties m none (WithSession j) a is = (is, λ e. cc)
  keeper_empties m none WithKeeper a is = no_phase a (ap phase_in (sym none) ∙ is)

  pub keeper_calls : (m : KeeperState) → ((a : Action) → keeper_hand m ≡ Some a → keeper_hand keeper ≡ Some a) → (holder : Holder) (a : Action) → held_at actions sessions m holder ≡ Some a → held_at actions sessions keeper holder ≡ Some a
  keeper_calls m less (InSlot slot) a is = is
  keeper_calls m less (WithSession j) a is = is
  keeper_calls m less WithKeeper a is = by_hand (keeper_hand m) refl is
    where
      by_hand : (hand : Option Action) → keeper_hand m ≡ hand → phase_in hand ≡ Some a → phase_in (keeper_hand keeper) ≡ Some a
      by_hand None e it = no_phase a it
      by_hand (Some its) e it = ap phase_in (less its e) ∙ it

  pub keeper_put : (m : KeeperState) (slot : ℕ) (action : Action) → keeper_hand m ≡ None → (holder : Holder) (a : Action) → held_at (slice_set actions slot (Some action)) sessions m holder ≡ Some a
      → ((holder ≡ InSlot slot) × (phase_in (Some action) ≡ Some a)) ⊎ (held_at actions sessions keeper holder ≡ Some a)
  keeper_put m slot action none (InSlot j) a is = elim (action_set actions slot j (Some action) a is) [ inl here ↦ inl (ap InSlot here.0, here.1) | inr there ↦ inr there.1 ]
  keeper_put m slot action none (WithSession j) a is = inr is
  keeper_put m slot action none WithKeeper a is = no_phase a (ap phase_in (sym none) ∙ is)

  pub keeper_takes : (m : KeeperState) (slot : ℕ) → ((a : Action) → phase_in (keeper_hand m) ≡ Some a → phase_in (action_at actions slot) ≡ Some a) → (holder : Holder) (a : Action) → held_at (slice_set actions slot None) sessions m holder ≡ Some a
      → ((holder ≡ WithKeeper) × (held_at actions sessions keeper (InSlot slot) ≡ Some a)) ⊎ ((held_at actions sessions keeper holder ≡ Some a) × (holder ≢ InSlot slot))
  keeper_takes m slot takes (InSlot j) a is = elim (action_set actions slot j None a is) [
    | inl here ↦ no_phase a here.1
    | inr there ↦ inr (there.1, λ e. there.0 (let same : j ≡ slot = cc in same))
  ]
  keeper_takes m slot takes (WithSession j) a is = inr (is, λ e. cc)
  keeper_takes m slot takes WithKeeper a is = inl (refl, takes a is)
