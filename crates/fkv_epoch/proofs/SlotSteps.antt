-- The steps that touch a slot: it is held, given an action, armed, claimed and freed; and the epoch is raised for it.
use Rattle.std.proofs.Common.{◌≡◌, ◌≢◌, ℕ, ◌+◌, ◌<◌, ◌≤◌, List, refl, arith, sym, ap, inl, inr, ◌∙◌}
use Rattle.fkv_base.specs.Limits.{drain_slots}
use Rattle.std.specs.Prelude.{Option, Some, None, slice_get, slice_set}
use Rattle.fkv_plane.specs.declared.actions.Action.{Action}
use Rattle.fkv_epoch.specs.EpochWorld.{EpochMachine, Armed}
use Rattle.fkv_epoch.specs.Once.{Among}
use Rattle.fkv_epoch.proofs.Items.{same_or, set_at, set_there, some_same, none_some}
use Rattle.fkv_epoch.proofs.Slots.{Fate, NotRaised, Carried, Waits, Taken, stage, SlotTable, Holds, Waiting, Slots, held}

pub waiting_at : (k k' : SlotTable) (s c : ℕ) → Waiting k s c → k'.fates c ≡ k.fates c → k'.homes s ≡ k.homes s → ((x : Armed) → Among x k.armed → Among x k'.armed) → Waiting k' s c
waiting_at k k' s c w f h more = record { waits = f ∙ w.waits; action = w.action; at_home = h ∙ w.at_home; was_armed = more _ w.was_armed }

fates_differ : (f g : Fate) {X : Type 0} → f ≡ g → (stage f ≡ stage g → ⊥) → X
fates_differ f g e n = absurd (n (ap stage e))

pub carried_same : (a b : ℕ) → Carried a ≡ Carried b → a ≡ b
carried_same a b e = cc

pub taken_same : (a b : ℕ) → Taken a ≡ Taken b → a ≡ b
taken_same a b e = cc

pub waits_same : (a b : ℕ) → Waits a ≡ Waits b → a ≡ b
waits_same a b e = cc

-- a free slot is held
pub hold : (k : SlotTable) (E' safe' : ℕ) (D' : ℕ → ℕ) (slot : ℕ) (actors : List EpochMachine) (a : ℕ) (d d' : EpochMachine)
    → Slots k actors → slice_get actors a ≡ Some d → k.epoch ≤ E' → k.safe ≤ safe'
    → slot < drain_slots → k.drains slot ≡ 0 → D' slot ≡ 1 → ((s : ℕ) → s < drain_slots → s ≢ slot → D' s ≡ k.drains s)
    → (let k' : SlotTable = record k { epoch = E'; safe = safe'; drains = D'; owners = set_at k.owners slot (Some a) } in Holds k' a d' → Slots k' (slice_set actors a d'))
hold k E' safe' D' slot actors a d d' old got up safer few was now same here =
    let k' : SlotTable = record k { epoch = E'; safe = safe'; drains = D'; owners = set_at k.owners slot (Some a) } in
    let free : k.owners slot ≡ None = old.unowned slot few (λ e. omega (arith, e, was)) in
    record {
      unowned = λ s small n. elim (same_or s slot) [
        | inl e ↦ absurd (n (ap D' e ∙ now))
        | inr ne ↦ set_there k.owners slot (Some a) s ne ∙ old.unowned s small (λ e. n (same s small ne ∙ e))
      ];
      empty = λ s small e. elim (same_or s slot) [
        | inl es ↦ absurd (omega (arith, e, ap D' es, now))
        | inr ne ↦ old.empty s small (sym (same s small ne) ∙ e)
      ];
      waiting = λ s c small e. elim (same_or s slot) [
        | inl es ↦ absurd (omega (arith, e, ap D' es, now))
        | inr ne ↦ waiting_at k k' s c (old.waiting s c small (sym (same s small ne) ∙ e)) refl refl (λ x o. o)
      ];
      not_raised = λ c h. old.not_raised c (omega arith);
      armed_stage = old.armed_stage;
      claimed_stage = old.claimed_stage;
      run_stage = old.run_stage;
      holds = held k k' actors a d d' old got (λ b n. record {
        safe = safer;
        owner = λ s f o. elim (same_or s slot) [
          | inl e ↦ none_some b (sym free ∙ (ap k.owners (sym e) ∙ o))
          | inr ne ↦ set_there k.owners slot (Some a) s ne ∙ o
        ];
        home = λ s f o. refl;
        carried = λ c o. o;
        taken = λ c o. o;
        armed = λ x o. o;
        claims = λ x o. o;
      }) here;
    }

-- the epoch is raised
pub raise : (k : SlotTable) (E' safe' : ℕ) (D' : ℕ → ℕ) (actors : List EpochMachine) (a : ℕ) (d d' : EpochMachine)
    → Slots k actors → slice_get actors a ≡ Some d → E' ≡ k.epoch + 1 → k.safe ≤ safe'
    → ((s : ℕ) → s < drain_slots → D' s ≡ k.drains s)
    → (let k' : SlotTable = record k { epoch = E'; safe = safe'; drains = D'; fates = set_at k.fates k.epoch (Carried a) } in Holds k' a d' → Slots k' (slice_set actors a d'))
raise k E' safe' D' actors a d d' old got up safer same here =
    let k' : SlotTable = record k { epoch = E'; safe = safe'; drains = D'; fates = set_at k.fates k.epoch (Carried a) } in
    let none : k.fates k.epoch ≡ NotRaised = old.not_raised k.epoch (omega arith) in
    let other : (c : ℕ) (f : Fate) → k.fates c ≡ f → (stage f ≡ 0 → ⊥) → k'.fates c ≡ f = λ c f e n. elim (same_or c k.epoch) [
      | inl ec ↦ absurd (n (ap stage (sym e ∙ (ap k.fates ec ∙ none))))
      | inr ne ↦ set_there k.fates k.epoch (Carried a) c ne ∙ e
    ] in
    let stays : (c : ℕ) → 2 ≤ stage (k.fates c) → stage (k'.fates c) ≡ stage (k.fates c) = λ c h. ap stage (other c (k.fates c) refl (λ z. omega (arith, z, h))) in
    record {
      unowned = λ s few n. old.unowned s few (λ e. n (same s few ∙ e));
      empty = λ s few e. old.empty s few (sym (same s few) ∙ e);
      waiting = λ s c few e.
          let w : Waiting k s c = old.waiting s c few (sym (same s few) ∙ e) in
          record { waits = other c (Waits s) w.waits (λ z. omega (arith, z)); action = w.action; at_home = w.at_home; was_armed = w.was_armed };
      not_raised = λ c h. set_there k.fates k.epoch (Carried a) c (λ e. omega (arith, e, up, h)) ∙ old.not_raised c (omega arith);
      armed_stage = λ x o. let h = old.armed_stage x o in omega (arith, stays x.epoch h, h);
      claimed_stage = λ x o. let h : 3 ≤ stage (k.fates x.epoch) = old.claimed_stage x o in omega (arith, stays x.epoch (omega arith), h);
      run_stage = λ x o. let h : 4 ≤ stage (k.fates x.epoch) = old.run_stage x o in omega (arith, stays x.epoch (omega arith), h);
      holds = held k k' actors a d d' old got (λ b n. record {
        safe = safer;
        owner = λ s f o. o;
        home = λ s f o. refl;
        carried = λ c o. other c (Carried b) o (λ z. omega (arith, z));
        taken = λ c o. other c (Taken b) o (λ z. omega (arith, z));
        armed = λ x o. o;
        claims = λ x o. o;
      }) here;
    }

-- the owner of a slot gives it an action
pub put : (k : SlotTable) (H' : ℕ → Option Action) (slot : ℕ) (actors : List EpochMachine) (a : ℕ) (d d' : EpochMachine)
    → Slots k actors → slice_get actors a ≡ Some d
    → slot < drain_slots → k.owners slot ≡ Some a → ((s : ℕ) → s < drain_slots → s ≢ slot → H' s ≡ k.homes s)
    → Holds (record k { homes = H' }) a d' → Slots (record k { homes = H' }) (slice_set actors a d')
put k H' slot actors a d d' old got few mine same here =
    let k' : SlotTable = record k { homes = H' } in
    record {
      unowned = old.unowned;
      empty = λ s small e. elim (same_or s slot) [
        | inl es ↦ none_some a (sym (old.unowned s small (λ one. omega (arith, e, one))) ∙ (ap k.owners es ∙ mine))
        | inr ne ↦ same s small ne ∙ old.empty s small e
      ];
      waiting = λ s c small e. elim (same_or s slot) [
        | inl es ↦ none_some a (sym (old.unowned s small (λ one. omega (arith, e, one))) ∙ (ap k.owners es ∙ mine))
        | inr ne ↦ waiting_at k k' s c (old.waiting s c small e) refl (same s small ne) (λ x o. o)
      ];
      not_raised = old.not_raised;
      armed_stage = old.armed_stage;
      claimed_stage = old.claimed_stage;
      run_stage = old.run_stage;
      holds = held k k' actors a d d' old got (λ b n. record {
        safe = omega arith;
        owner = λ s f o. o;
        home = λ s f o. elim (same_or s slot) [
          | inl e ↦ absurd (n (some_same b a (sym o ∙ (ap k.owners e ∙ mine))))
          | inr ne ↦ same s f ne
        ];
        carried = λ c o. o;
        taken = λ c o. o;
        armed = λ x o. o;
        claims = λ x o. o;
      }) here;
    }
