-- The steps of an armed slot: it is armed, claimed, its action run, and it is freed.
use Rattle.std.proofs.Common.{◌≡◌, ◌≢◌, ℕ, ◌+◌, ◌<◌, ◌≤◌, List, ◌∷◌, refl, arith, sym, ap, inl, inr, ◌∙◌}
use Rattle.fkv_base.specs.Limits.{drain_slots}
use Rattle.std.specs.Prelude.{Option, Some, None, slice_get, slice_set}
use Rattle.fkv_plane.specs.declared.actions.Action.{Action}
use Rattle.fkv_epoch.specs.EpochWorld.{EpochMachine, Armed, Claimed, Ran}
use Rattle.fkv_epoch.proofs.Items.{same_or, set_at, set_here, set_there, some_same, none_some}
use Rattle.fkv_epoch.proofs.Slots.{Fate, NotRaised, Carried, Waits, Taken, Spent, stage, SlotTable, Holds, Waiting, Slots, held}
use Rattle.fkv_epoch.proofs.SlotSteps.{waiting_at, carried_same, taken_same, waits_same}

-- an epoch of another stage keeps its fate
other_fate : (fates : ℕ → Fate) (c : ℕ) (new : Fate) (e : ℕ) (f : Fate) → fates e ≡ f → (fates c ≡ f → ⊥) → set_at fates c new e ≡ f
other_fate fates c new e f at_e n = elim (same_or e c) [
  | inl ec ↦ absurd (n (ap fates (sym ec) ∙ at_e))
  | inr ne ↦ set_there fates c new e ne ∙ at_e
]

stages_differ : (f g : Fate) → (stage f ≡ stage g → ⊥) → f ≡ g → ⊥
stages_differ f g n e = n (ap stage e)

-- no stage falls
stage_up : (fates : ℕ → Fate) (c : ℕ) (new : Fate) (e : ℕ) → stage (fates c) ≤ stage new → stage (fates e) ≤ stage (set_at fates c new e)
stage_up fates c new e up = elim (same_or e c) [
  | inl ec ↦ let h = ap stage (set_here fates c new e ec) in let g = ap (λ i. stage (fates i)) ec in omega arith
  | inr ne ↦ let h = ap stage (set_there fates c new e ne) in omega arith
]

-- a held slot is armed
pub arm : (k : SlotTable) (E' safe' : ℕ) (D' : ℕ → ℕ) (slot c : ℕ) (action : Action) (actors : List EpochMachine) (a : ℕ) (d d' : EpochMachine)
    → Slots k actors → slice_get actors a ≡ Some d → k.epoch ≤ E' → k.safe ≤ safe'
    → slot < drain_slots → k.owners slot ≡ Some a → k.fates c ≡ Carried a → k.homes slot ≡ Some action
    → D' slot ≡ c + 2 → ((s : ℕ) → s < drain_slots → s ≢ slot → D' s ≡ k.drains s)
    → (let k' : SlotTable = record k { epoch = E'; safe = safe'; drains = D'; owners = set_at k.owners slot None; fates = set_at k.fates c (Waits slot); armed = record { slot = slot; epoch = c; action = action } ∷ k.armed } in
    Holds k' a d' → Slots k' (slice_set actors a d'))
arm k E' safe' D' slot c action actors a d d' old got up safer few mine carried home now same here =
    let x0 : Armed = record { slot = slot; epoch = c; action = action } in
    let k' : SlotTable = record k { epoch = E'; safe = safe'; drains = D'; owners = set_at k.owners slot None; fates = set_at k.fates c (Waits slot); armed = x0 ∷ k.armed } in
    let no : (f : Fate) → (stage f ≡ 1 → ⊥) → k.fates c ≡ f → ⊥ = λ f n e. n (ap stage (sym e ∙ carried)) in
    let at_c : stage (k.fates c) ≡ 1 = ap stage carried in
    let rises : (e : ℕ) → stage (k.fates e) ≤ stage (k'.fates e) = λ e. stage_up k.fates c (Waits slot) e (omega arith) in
    record {
      unowned = λ s small n. elim (same_or s slot) [
        | inl e ↦ set_here k.owners slot None s e
        | inr ne ↦ set_there k.owners slot None s ne ∙ old.unowned s small (λ e. n (same s small ne ∙ e))
      ];
      empty = λ s small z. elim (same_or s slot) [
        | inl es ↦ absurd (omega (arith, z, ap D' es, now))
        | inr ne ↦ old.empty s small (sym (same s small ne) ∙ z)
      ];
      waiting = λ s e small at_s. elim (same_or s slot) [
        | inl es ↦
            let ec : e ≡ c = omega (arith, at_s, ap D' es, now) in
            record {
              waits = set_here k.fates c (Waits slot) e ec ∙ ap Waits (sym es);
              action = action;
              at_home = ap k.homes es ∙ home;
              was_armed = inl (ap (λ i. let x : Armed = record { slot = i; epoch = e; action = action } in x) es ∙ ap (λ i. let x : Armed = record { slot = slot; epoch = i; action = action } in x) ec);
            }
        | inr ne ↦
            let w : Waiting k s e = old.waiting s e small (sym (same s small ne) ∙ at_s) in
            waiting_at k k' s e w (other_fate k.fates c (Waits slot) e (Waits s) w.waits (no (Waits s) (λ z. omega (arith, z))) ∙ sym w.waits) refl (λ x o. inr o)
      ];
      not_raised = λ e h. other_fate k.fates c (Waits slot) e NotRaised (old.not_raised e (omega arith)) (no NotRaised (λ z. omega (arith, z)));
      armed_stage = λ x o. elim o [
        | inl e ↦
            let ec : x.epoch ≡ c = ap (λ (y : Armed). y.epoch) e in
            let h = ap stage (set_here k.fates c (Waits slot) x.epoch ec) in omega arith
        | inr o' ↦ let h = old.armed_stage x o' in let r = rises x.epoch in omega arith
      ];
      claimed_stage = λ x o. let h = old.claimed_stage x o in let r = rises x.epoch in omega arith;
      run_stage = λ x o. let h = old.run_stage x o in let r = rises x.epoch in omega arith;
      holds = held k k' actors a d d' old got (λ b n. record {
        safe = safer;
        owner = λ s f o. elim (same_or s slot) [
          | inl e ↦ absurd (n (some_same b a (sym o ∙ (ap k.owners e ∙ mine))))
          | inr ne ↦ set_there k.owners slot None s ne ∙ o
        ];
        home = λ s f o. refl;
        carried = λ e o. other_fate k.fates c (Waits slot) e (Carried b) o (λ h. n (carried_same b a (sym h ∙ carried)));
        taken = λ e o. other_fate k.fates c (Waits slot) e (Taken b) o (no (Taken b) (λ z. omega (arith, z)));
        armed = λ x o. inr o;
        claims = λ x o. o;
      }) here;
    }

-- an armed slot is claimed, and its action with it
pub take : (k : SlotTable) (E' safe' : ℕ) (D' : ℕ → ℕ) (H' : ℕ → Option Action) (slot c : ℕ) (actors : List EpochMachine) (a : ℕ) (d d' : EpochMachine)
    → Slots k actors → slice_get actors a ≡ Some d → k.epoch ≤ E' → k.safe ≤ safe'
    → slot < drain_slots → k.drains slot ≡ c + 2 → D' slot ≡ 1 → ((s : ℕ) → s < drain_slots → s ≢ slot → D' s ≡ k.drains s)
    → ((s : ℕ) → s < drain_slots → s ≢ slot → H' s ≡ k.homes s)
    → (let k' : SlotTable = record k { epoch = E'; safe = safe'; drains = D'; homes = H'; owners = set_at k.owners slot (Some a); fates = set_at k.fates c (Taken a); claims = record { actor = a; slot = slot; epoch = c } ∷ k.claims } in
    Holds k' a d' → Slots k' (slice_set actors a d'))
take k E' safe' D' H' slot c actors a d d' old got up safer few was now same same_home here =
    let t0 : Claimed = record { actor = a; slot = slot; epoch = c } in
    let k' : SlotTable = record k { epoch = E'; safe = safe'; drains = D'; homes = H'; owners = set_at k.owners slot (Some a); fates = set_at k.fates c (Taken a); claims = t0 ∷ k.claims } in
    let mine : Waiting k slot c = old.waiting slot c few was in
    let free : k.owners slot ≡ None = old.unowned slot few (λ e. omega (arith, e, was)) in
    let at_c : stage (k.fates c) ≡ 2 = ap stage mine.waits in
    let no : (f : Fate) → (stage f ≡ 2 → ⊥) → k.fates c ≡ f → ⊥ = λ f n e. n (ap stage (sym e ∙ mine.waits)) in
    let rises : (e : ℕ) → stage (k.fates e) ≤ stage (k'.fates e) = λ e. stage_up k.fates c (Taken a) e (omega arith) in
    record {
      unowned = λ s small n. elim (same_or s slot) [
        | inl e ↦ absurd (n (ap D' e ∙ now))
        | inr ne ↦ set_there k.owners slot (Some a) s ne ∙ old.unowned s small (λ e. n (same s small ne ∙ e))
      ];
      empty = λ s small z. elim (same_or s slot) [
        | inl es ↦ absurd (omega (arith, z, ap D' es, now))
        | inr ne ↦ same_home s small ne ∙ old.empty s small (sym (same s small ne) ∙ z)
      ];
      waiting = λ s e small at_s. elim (same_or s slot) [
        | inl es ↦ absurd (omega (arith, at_s, ap D' es, now))
        | inr ne ↦
            let w : Waiting k s e = old.waiting s e small (sym (same s small ne) ∙ at_s) in
            waiting_at k k' s e w (other_fate k.fates c (Taken a) e (Waits s) w.waits (λ h. ne (waits_same s slot (sym h ∙ mine.waits))) ∙ sym w.waits) (same_home s small ne) (λ x o. o)
      ];
      not_raised = λ e h. other_fate k.fates c (Taken a) e NotRaised (old.not_raised e (omega arith)) (no NotRaised (λ z. omega (arith, z)));
      armed_stage = λ x o. let h = old.armed_stage x o in let r = rises x.epoch in omega arith;
      claimed_stage = λ x o. elim o [
        | inl e ↦
            let ec : x.epoch ≡ c = ap (λ (y : Claimed). y.epoch) e in
            let h = ap stage (set_here k.fates c (Taken a) x.epoch ec) in omega arith
        | inr o' ↦ let h = old.claimed_stage x o' in let r = rises x.epoch in omega arith
      ];
      run_stage = λ x o. let h = old.run_stage x o in let r = rises x.epoch in omega arith;
      holds = held k k' actors a d d' old got (λ b n.
          let apart : (s : ℕ) → k.owners s ≡ Some b → s ≢ slot = λ s o e. none_some b (sym free ∙ (ap k.owners (sym e) ∙ o)) in
          record {
            safe = safer;
            owner = λ s f o. set_there k.owners slot (Some a) s (apart s o) ∙ o;
            home = λ s f o. same_home s f (apart s o);
            carried = λ e o. other_fate k.fates c (Taken a) e (Carried b) o (no (Carried b) (λ z. omega (arith, z)));
            taken = λ e o. other_fate k.fates c (Taken a) e (Taken b) o (no (Taken b) (λ z. omega (arith, z)));
            armed = λ x o. o;
            claims = λ x o. inr o;
          }) here;
    }

-- a claimed action is run
pub spend : (k : SlotTable) (E' safe' : ℕ) (D' : ℕ → ℕ) (slot c : ℕ) (action : Action) (actors : List EpochMachine) (a : ℕ) (d d' : EpochMachine)
    → Slots k actors → slice_get actors a ≡ Some d → k.epoch ≤ E' → k.safe ≤ safe'
    → k.fates c ≡ Taken a → ((s : ℕ) → s < drain_slots → D' s ≡ k.drains s)
    → (let k' : SlotTable = record k { epoch = E'; safe = safe'; drains = D'; fates = set_at k.fates c Spent; runs = record { actor = a; slot = slot; epoch = c; action = action } ∷ k.runs } in
    Holds k' a d' → Slots k' (slice_set actors a d'))
spend k E' safe' D' slot c action actors a d d' old got up safer taken same here =
    let r0 : Ran = record { actor = a; slot = slot; epoch = c; action = action } in
    let k' : SlotTable = record k { epoch = E'; safe = safe'; drains = D'; fates = set_at k.fates c Spent; runs = r0 ∷ k.runs } in
    let at_c : stage (k.fates c) ≡ 3 = ap stage taken in
    let no : (f : Fate) → (stage f ≡ 3 → ⊥) → k.fates c ≡ f → ⊥ = λ f n e. n (ap stage (sym e ∙ taken)) in
    let rises : (e : ℕ) → stage (k.fates e) ≤ stage (k'.fates e) = λ e. stage_up k.fates c Spent e (omega arith) in
    record {
      unowned = λ s small n. old.unowned s small (λ e. n (same s small ∙ e));
      empty = λ s small z. old.empty s small (sym (same s small) ∙ z);
      waiting = λ s e small at_s.
          let w : Waiting k s e = old.waiting s e small (sym (same s small) ∙ at_s) in
          waiting_at k k' s e w (other_fate k.fates c Spent e (Waits s) w.waits (no (Waits s) (λ z. omega (arith, z))) ∙ sym w.waits) refl (λ x o. o);
      not_raised = λ e h. other_fate k.fates c Spent e NotRaised (old.not_raised e (omega arith)) (no NotRaised (λ z. omega (arith, z)));
      armed_stage = λ x o. let h = old.armed_stage x o in let r = rises x.epoch in omega arith;
      claimed_stage = λ x o. let h = old.claimed_stage x o in let r = rises x.epoch in omega arith;
      run_stage = λ x o. elim o [
        | inl e ↦
            let ec : x.epoch ≡ c = ap (λ (y : Ran). y.epoch) e in
            let h = ap stage (set_here k.fates c Spent x.epoch ec) in omega arith
        | inr o' ↦ let h = old.run_stage x o' in let r = rises x.epoch in omega arith
      ];
      holds = held k k' actors a d d' old got (λ b n. record {
        safe = safer;
        owner = λ s f o. o;
        home = λ s f o. refl;
        carried = λ e o. other_fate k.fates c Spent e (Carried b) o (no (Carried b) (λ z. omega (arith, z)));
        taken = λ e o. other_fate k.fates c Spent e (Taken b) o (λ h. n (taken_same b a (sym h ∙ taken)));
        armed = λ x o. o;
        claims = λ x o. o;
      }) here;
    }

-- a slot is set free
pub free : (k : SlotTable) (E' safe' : ℕ) (D' : ℕ → ℕ) (slot : ℕ) (actors : List EpochMachine) (a : ℕ) (d d' : EpochMachine)
    → Slots k actors → slice_get actors a ≡ Some d → k.epoch ≤ E' → k.safe ≤ safe'
    → k.owners slot ≡ Some a → k.homes slot ≡ None → D' slot ≡ 0 → ((s : ℕ) → s < drain_slots → s ≢ slot → D' s ≡ k.drains s)
    → (let k' : SlotTable = record k { epoch = E'; safe = safe'; drains = D'; owners = set_at k.owners slot None } in Holds k' a d' → Slots k' (slice_set actors a d'))
free k E' safe' D' slot actors a d d' old got up safer mine bare now same here =
    let k' : SlotTable = record k { epoch = E'; safe = safe'; drains = D'; owners = set_at k.owners slot None } in
    record {
      unowned = λ s small n. elim (same_or s slot) [
        | inl e ↦ set_here k.owners slot None s e
        | inr ne ↦ set_there k.owners slot None s ne ∙ old.unowned s small (λ e. n (same s small ne ∙ e))
      ];
      empty = λ s small z. elim (same_or s slot) [
        | inl es ↦ ap k.homes es ∙ bare
        | inr ne ↦ old.empty s small (sym (same s small ne) ∙ z)
      ];
      waiting = λ s e small at_s. elim (same_or s slot) [
        | inl es ↦ absurd (omega (arith, at_s, ap D' es, now))
        | inr ne ↦ waiting_at k k' s e (old.waiting s e small (sym (same s small ne) ∙ at_s)) refl refl (λ x o. o)
      ];
      not_raised = λ e h. old.not_raised e (omega arith);
      armed_stage = old.armed_stage;
      claimed_stage = old.claimed_stage;
      run_stage = old.run_stage;
      holds = held k k' actors a d d' old got (λ b n. record {
        safe = safer;
        owner = λ s f o. elim (same_or s slot) [
          | inl e ↦ absurd (n (some_same b a (sym o ∙ (ap k.owners e ∙ mine))))
          | inr ne ↦ set_there k.owners slot None s ne ∙ o
        ];
        home = λ s f o. refl;
        carried = λ e o. o;
        taken = λ e o. o;
        armed = λ x o. o;
        claims = λ x o. o;
      }) here;
    }
