-- Slots and their owners. An epoch goes one way only: it is raised and borne to a slot, waits there, is claimed, and spent.
use Rattle.std.proofs.Common.{◌≡◌, ◌≢◌, ℕ, ◌+◌, ◌<◌, ◌≤◌, List, refl, arith, sym, ap, inl, inr, ◌∙◌}
use Rattle.fkv_base.specs.Limits.{drain_slots}
use Rattle.std.specs.Prelude.{Option, Some, None, slice_get, slice_set, ⊤}
use Rattle.fkv_plane.specs.declared.actions.Action.{Action}
use Rattle.fkv_epoch.specs.declared.claiming.Claiming.TheVariants as claim
use Rattle.fkv_epoch.specs.declared.raising.Raising.TheVariants as raise
use Rattle.fkv_epoch.specs.declared.arming.Arming.TheVariants as arm
use Rattle.fkv_epoch.specs.EpochWorld.{EpochMachine, Protects, Refreshes, Leaves, Scans, Claims, Raises, HasRaised, Arms, Armed, Claimed, Ran}
use Rattle.fkv_epoch.specs.Once.{Among}
use Rattle.fkv_epoch.proofs.Items.{item_written, item_spared, same_or, some_same}

-- where the action of an epoch is
pub data Fate : Type 0 where
  NotRaised : Fate
  Carried : ℕ → Fate
  Waits : ℕ → Fate
  Taken : ℕ → Fate
  Spent : Fate

-- how far it has come
abbrev pub stage : Fate → ℕ
stage NotRaised = 0
stage (Carried a) = 1
stage (Waits slot) = 2
stage (Taken a) = 3
stage Spent = 4

-- the slots' words, what is at home, who owns each slot, and where each epoch's action is
pub record SlotTable : Type 0 where
  pub epoch : ℕ
  pub safe : ℕ
  pub drains : ℕ → ℕ
  pub homes : ℕ → Option Action
  pub owners : ℕ → Option ℕ
  pub fates : ℕ → Fate
  pub armed : List Armed
  pub claims : List Claimed
  pub runs : List Ran

-- what a machine knows, by how far it has come
abbrev pub Holds : SlotTable → ℕ → EpochMachine → Type 0
Holds k a (Claims claim.AtRest) = ⊤
Holds k a (Claims (claim.MeetsSlot slot None)) = slot < drain_slots
Holds k a (Claims (claim.MeetsSlot slot (Some z))) = (slot < drain_slots) × (z ≤ k.safe)
Holds k a (Claims (claim.LoadsSafe slot word)) = (slot < drain_slots) × (2 ≤ word)
Holds k a (Claims (claim.TakesSlot slot word z)) = (slot < drain_slots) × (z ≤ k.safe) × (2 ≤ word) × (word ≤ z + 2)
Holds k a (Claims (claim.Receives slot epoch z)) = ⊥
Holds k a (Claims (claim.Runs slot epoch z action)) = (slot < drain_slots) × (z ≤ k.safe) × (k.owners slot ≡ Some a) × (k.fates epoch ≡ Taken a) × Among (record { slot = slot; epoch = epoch; action = action }) k.armed × Among (record { actor = a; slot = slot; epoch = epoch }) k.claims × (k.homes slot ≡ None)
Holds k a (Claims (claim.FreesSlot slot z)) = (slot < drain_slots) × (z ≤ k.safe) × (k.owners slot ≡ Some a) × (k.homes slot ≡ None)
Holds k a (Raises raise.AtRest) = ⊤
Holds k a (Raises raise.LoadsEpoch) = ⊤
Holds k a (Raises (raise.MeetsSlot slot)) = slot < drain_slots
Holds k a (Raises (raise.HoldsSlot slot)) = slot < drain_slots
Holds k a (Raises (raise.HasSlot slot)) = (slot < drain_slots) × (k.owners slot ≡ Some a) × (k.homes slot ≡ None)
Holds k a (Raises (raise.RaisesEpoch slot)) = (slot < drain_slots) × (k.owners slot ≡ Some a) × (k.homes slot ≡ None)
Holds k a (HasRaised slot epoch) = (slot < drain_slots) × (k.owners slot ≡ Some a) × (k.fates epoch ≡ Carried a) × (k.homes slot ≡ None)
Holds k a (Arms arm.AtRest) = ⊤
Holds k a (Arms (arm.PutsAction slot epoch)) = ⊥
Holds k a (Arms (arm.StoresEpoch slot epoch)) = (slot < drain_slots) × (k.owners slot ≡ Some a) × (k.fates epoch ≡ Carried a) × ((action : Action) × (k.homes slot ≡ Some action))
Holds k a machine = ⊤

-- a slot that is armed at c has the action of c at home, and no owner
pub record Waiting (k : SlotTable) (slot c : ℕ) : Type 0 where
  pub waits : k.fates c ≡ Waits slot
  pub action : Action
  pub at_home : k.homes slot ≡ Some action
  pub was_armed : Among (record { slot = slot; epoch = c; action = action }) k.armed

pub record Slots (k : SlotTable) (actors : List EpochMachine) : Type 0 where
  pub unowned : (slot : ℕ) → slot < drain_slots → k.drains slot ≢ 1 → k.owners slot ≡ None
  -- a free slot has no action
  pub empty : (slot : ℕ) → slot < drain_slots → k.drains slot ≡ 0 → k.homes slot ≡ None
  pub waiting : (slot c : ℕ) → slot < drain_slots → k.drains slot ≡ c + 2 → Waiting k slot c
  pub not_raised : (c : ℕ) → k.epoch ≤ c → k.fates c ≡ NotRaised
  pub armed_stage : (x : Armed) → Among x k.armed → 2 ≤ stage (k.fates x.epoch)
  pub claimed_stage : (x : Claimed) → Among x k.claims → 3 ≤ stage (k.fates x.epoch)
  pub run_stage : (x : Ran) → Among x k.runs → 4 ≤ stage (k.fates x.epoch)
  pub holds : (a : ℕ) (machine : EpochMachine) → slice_get actors a ≡ Some machine → Holds k a machine

-- what the actor b has is spared from k to k'
pub record Spares (k k' : SlotTable) (b : ℕ) : Type 0 where
  pub safe : k.safe ≤ k'.safe
  pub owner : (slot : ℕ) → slot < drain_slots → k.owners slot ≡ Some b → k'.owners slot ≡ Some b
  pub home : (slot : ℕ) → slot < drain_slots → k.owners slot ≡ Some b → k'.homes slot ≡ k.homes slot
  pub carried : (c : ℕ) → k.fates c ≡ Carried b → k'.fates c ≡ Carried b
  pub taken : (c : ℕ) → k.fates c ≡ Taken b → k'.fates c ≡ Taken b
  pub armed : (x : Armed) → Among x k.armed → Among x k'.armed
  pub claims : (x : Claimed) → Among x k.claims → Among x k'.claims

pub holds_more : (k k' : SlotTable) (b : ℕ) (machine : EpochMachine) → Spares k k' b → Holds k b machine → Holds k' b machine
holds_more k k' b (Claims claim.AtRest) s h = tt
holds_more k k' b (Claims (claim.MeetsSlot slot None)) s h = h
holds_more k k' b (Claims (claim.MeetsSlot slot (Some z))) s h = (h.0, omega (arith, s.safe, h.1))
holds_more k k' b (Claims (claim.LoadsSafe slot word)) s h = h
holds_more k k' b (Claims (claim.TakesSlot slot word z)) s h = (h.0, omega (arith, s.safe, h.1), h.2, h.3)
holds_more k k' b (Claims (claim.Receives slot epoch z)) s h = h
holds_more k k' b (Claims (claim.Runs slot epoch z action)) s h = (h.0, omega (arith, s.safe, h.1), s.owner slot h.0 h.2, s.taken epoch h.3, s.armed _ h.4, s.claims _ h.5, s.home slot h.0 h.2 ∙ h.6)
holds_more k k' b (Claims (claim.FreesSlot slot z)) s h = (h.0, omega (arith, s.safe, h.1), s.owner slot h.0 h.2, s.home slot h.0 h.2 ∙ h.3)
holds_more k k' b (Raises raise.AtRest) s h = tt
holds_more k k' b (Raises raise.LoadsEpoch) s h = tt
holds_more k k' b (Raises (raise.MeetsSlot slot)) s h = h
holds_more k k' b (Raises (raise.HoldsSlot slot)) s h = h
holds_more k k' b (Raises (raise.HasSlot slot)) s h = (h.0, s.owner slot h.0 h.1, s.home slot h.0 h.1 ∙ h.2)
holds_more k k' b (Raises (raise.RaisesEpoch slot)) s h = (h.0, s.owner slot h.0 h.1, s.home slot h.0 h.1 ∙ h.2)
holds_more k k' b (HasRaised slot epoch) s h = (h.0, s.owner slot h.0 h.1, s.carried epoch h.2, s.home slot h.0 h.1 ∙ h.3)
holds_more k k' b (Arms arm.AtRest) s h = tt
holds_more k k' b (Arms (arm.PutsAction slot epoch)) s h = h
holds_more k k' b (Arms (arm.StoresEpoch slot epoch)) s h = (h.0, s.owner slot h.0 h.1, s.carried epoch h.2, (h.3.0, s.home slot h.0 h.1 ∙ h.3.1))
holds_more k k' b (Protects x) s h = tt
holds_more k k' b (Refreshes x) s h = tt
holds_more k k' b (Leaves x) s h = tt
holds_more k k' b (Scans x) s h = tt

-- what every actor knows after a step of the actor a that spares the others
pub held : (k k' : SlotTable) (actors : List EpochMachine) (a : ℕ) (d d' : EpochMachine) → Slots k actors → slice_get actors a ≡ Some d
    → ((b : ℕ) → b ≢ a → Spares k k' b) → Holds k' a d'
    → (b : ℕ) (machine : EpochMachine) → slice_get (slice_set actors a d') b ≡ Some machine → Holds k' b machine
held k k' actors a d d' old got spares here b machine got' =
    elim (same_or b a) [
      | inl e ↦
          let its : machine ≡ d' = some_same machine d' (sym got' ∙ (ap (slice_get (slice_set actors a d')) e ∙ item_written actors a d d' got)) in
          rw (e, its) here
      | inr n ↦ holds_more k k' b machine (spares b n) (old.holds b machine (sym (item_spared actors a b d' n) ∙ got'))
    ]

-- the actor's step touches no slot
pub still : (k : SlotTable) (E' safe' : ℕ) (D' : ℕ → ℕ) (actors : List EpochMachine) (a : ℕ) (d d' : EpochMachine)
    → Slots k actors → slice_get actors a ≡ Some d → k.epoch ≤ E' → k.safe ≤ safe' → ((s : ℕ) → s < drain_slots → D' s ≡ k.drains s)
    → Holds (record k { epoch = E'; safe = safe'; drains = D' }) a d'
    → Slots (record k { epoch = E'; safe = safe'; drains = D' }) (slice_set actors a d')
still k E' safe' D' actors a d d' old got up safer same here =
    let k' : SlotTable = record k { epoch = E'; safe = safe'; drains = D' } in
    record {
      unowned = λ s few n. old.unowned s few (λ e. n (same s few ∙ e));
      empty = λ s few e. old.empty s few (sym (same s few) ∙ e);
      waiting = λ s c few e. let h = old.waiting s c few (sym (same s few) ∙ e) in record { waits = h.waits; action = h.action; at_home = h.at_home; was_armed = h.was_armed };
      not_raised = λ c h. old.not_raised c (omega arith);
      armed_stage = old.armed_stage;
      claimed_stage = old.claimed_stage;
      run_stage = old.run_stage;
      holds = held k k' actors a d d' old got (λ b n. record { safe = safer; owner = λ s f o. o; home = λ s f o. refl; carried = λ c o. o; taken = λ c o. o; armed = λ x o. o; claims = λ x o. o }) here;
    }
