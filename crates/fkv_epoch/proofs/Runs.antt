-- Every run is sound, and what follows from that.
use Rattle.std.proofs.Common.{◌≡◌, ℕ, zero, suc, ◌+◌, ◌-◌, ◌≤◌, List, [], ◌∷◌, length, refl, arith, ap, inl, inr, Bool, true, false}
use Rattle.fkv_base.specs.Limits.{drain_slots}
use Rattle.std.specs.Prelude.{Option, Some, None, slice_get, slice_set, replicate, sum_by, All, ◌==◌, if◌then◌else◌}
use Rattle.std.proofs.lemmas.List.{length-replicate, get_or-replicate}
use Rattle.std.proofs.lemmas.List.Sums.{sum_by-le}
use Rattle.fkv_plane.specs.Plane.{action_at}
use Rattle.fkv_epoch.specs.declared.protecting.Protecting.TheVariants as protect
use Rattle.fkv_epoch.specs.declared.claiming.Claiming.{Claiming}
use Rattle.fkv_epoch.specs.declared.claiming.Claiming.TheVariants as claim
use Rattle.fkv_epoch.specs.EpochWorld.{EpochMachine, Protects, Refreshes, Leaves, Scans, Claims, Raises, HasRaised, Arms, Sight, OfPhase, OfReadOnly, OfHead, EpochWorld, EpochEvent, Begins, Resumes, Puts, Moves, Sees, Changes, Claimed, epoch_happens, epoch_run, safe_of, drain_word, claimed_by, is_own}
use Rattle.fkv_epoch.specs.Once.{IsOpened, opening, load_of, SeenSinceRaise, InForceSinceRaise, claims_found, claims_of, Among}
use Rattle.fkv_epoch.proofs.Slots.{NotRaised}
use Rattle.fkv_epoch.proofs.Sound.{IsSound, weight}
use Rattle.fkv_epoch.proofs.Happens.{begun_sound, resumed_sound, moved_sound}
use Rattle.fkv_epoch.proofs.Outer.{put_sound, seen_sound, changes_sound}

-- one event
pub happens_sound : (w : EpochWorld) (event : EpochEvent) → IsSound w → IsSound (epoch_happens w event)
unfolding epoch_happens
happens_sound w (Begins actor task) sound = begun_sound w actor task (slice_get w.now.actors actor) refl sound
happens_sound w (Resumes actor) sound = resumed_sound w actor (slice_get w.now.actors actor) refl sound
happens_sound w (Puts actor action) sound = put_sound w actor action (slice_get w.now.actors actor) refl sound
happens_sound w (Moves actor) sound = moved_sound w actor (slice_get w.now.actors actor) refl sound
happens_sound w (Sees session sight) sound = seen_sound w session sight (slice_get w.now.actors session) refl sound
happens_sound w (Changes place word) sound = cases (is_own w.now.sessions place) refl
  where
    cases : (b : Bool) → is_own w.now.sessions place ≡ b → IsSound (record { now = if b then w.now else record w.now { words = slice_set w.now.words place word }; past = w.past })
    cases true e = sound
    cases false e = changes_sound w place word e sound

-- a whole run
pub run_sound : (w : EpochWorld) (events : List EpochEvent) → IsSound w → IsSound (epoch_run w events)
unfolding epoch_run
run_sound w [] sound = sound
run_sound w (event ∷ before) sound = happens_sound (epoch_run w before) event (run_sound w before sound)

replicate_item : {X : Type 0} (n i : ℕ) (x d : X) → slice_get (replicate n x) i ≡ Some d → d ≡ x
replicate_item zero i x d e = cc
replicate_item (suc n) zero x d e = cc
replicate_item (suc n) (suc i) x d e = replicate_item n i x d e

bare_slots : (n i : ℕ) → action_at (replicate n None) i ≡ None
bare_slots zero i = refl
bare_slots (suc n) zero = refl
bare_slots (suc n) (suc i) = bare_slots n i

no_weight : (n : ℕ) → sum_by weight (replicate n (Protects protect.AtRest)) ≡ 0
no_weight n =
    let rests : List EpochMachine = replicate n (Protects protect.AtRest) in
    let same : length rests ≡ n = length-replicate n (Protects protect.AtRest) in
    let none : All (λ x. weight x ≤ 0) rests = λ k d h. rw (get_or-replicate n k (Protects protect.AtRest) d (omega (arith, h, same))) (omega arith) in
    let most = sum_by-le weight 0 rests none in
    omega (arith, most)

-- the store as it is opened
pub opening_sound : (sessions actors : ℕ) (words : List ℕ) → IsOpened sessions actors words → IsSound (opening sessions actors words)
opening_sound sessions actors words o =
    let rest : EpochMachine = Protects protect.AtRest in
    let same : length (replicate actors rest) ≡ actors = length-replicate actors rest in
    let light = no_weight actors in
    let first = o.first_epoch in
    let safe = o.nothing_safe in
    let one : (sight : Sight) → load_of (record { phase = 1; read_only = 1; head = 1 }) sight ≡ 1 = one_of in
    record {
      few_sessions = o.few_sessions;
      enough_words = o.enough_words;
      eight_slots = refl;
      few_actors = omega (arith, same, o.few_actors);
      bounded = omega (arith, light, first);
      epochs = record {
        safe_below = omega (arith, first, safe);
        loads_below = λ s sight. let h = one sight in omega (arith, h, first);
        force_below = λ s sight. omega arith;
        words_below = λ s h. let a = o.awake s h in omega (arith, a, first);
        above_safe = λ s h machine got. record { loaded = λ sight p g. let x = one sight in omega (arith, x, safe) };
        above_word = λ s h machine got. record { loaded = λ sight p g. let x = one sight in let a = o.awake s h in omega (arith, x, a) };
        knows = λ a machine got. rw (replicate_item actors a rest machine got) (λ h. let e = o.awake a h in omega (arith, e));
      };
      owners = λ slot. None;
      fates = λ c. NotRaised;
      slots = record {
        unowned = λ slot few n. refl;
        empty = λ slot few e. bare_slots drain_slots slot;
        waiting = λ slot c few e. absurd (let z = o.slots_free slot few in omega (arith, z, e));
        not_raised = λ c h. refl;
        armed_stage = λ x h. absurd h;
        claimed_stage = λ x h. absurd h;
        run_stage = λ x h. absurd h;
        holds = λ a machine got. rw (replicate_item actors a rest machine got) tt;
      };
      once = record { armed_once = tt; claimed_once = tt; run_once = tt; by_the_claimer = λ x h. absurd h; the_armed_action = λ x h. absurd h };
    }
  where
    one_of : (sight : Sight) → load_of (record { phase = 1; read_only = 1; head = 1 }) sight ≡ 1
    one_of OfPhase = refl
    one_of OfReadOnly = refl
    one_of OfHead = refl

-- what every session goes by was loaded after each epoch was raised that is safe
pub safe_is_seen : (w : EpochWorld) (c : ℕ) → IsSound w → c ≤ safe_of w.now.words → SeenSinceRaise w c
unfolding SeenSinceRaise
safe_is_seen w c sound h session sight counts =
    let x = (sound.epochs.above_safe session counts.is_session counts.machine counts.its_machine).loaded sight counts.is_protected counts.has_loaded in
    let last = sound.epochs.force_below session sight in
    omega (arith, x, last, h)

-- and so was what it goes by while a refresh is under way
pub safe_is_in_force : (w : EpochWorld) (c : ℕ) → IsSound w → c ≤ safe_of w.now.words → InForceSinceRaise w c
unfolding InForceSinceRaise
safe_is_in_force w c sound h session sight counts =
    let x = (sound.epochs.above_safe session counts.is_session counts.machine counts.its_machine).loaded sight counts.is_protected counts.has_loaded in
    omega (arith, x, h)

-- who claims a slot has loaded a safe epoch that is no less than the slot's
pub claim_is_safe : (w : EpochWorld) (event : EpochEvent) (x : Claimed) → IsSound w → Among x (claims_of w.now event) → x.epoch ≤ safe_of w.now.words
claim_is_safe w (Begins actor task) x sound o = absurd o
claim_is_safe w (Resumes actor) x sound o = absurd o
claim_is_safe w (Puts actor action) x sound o = absurd o
claim_is_safe w (Sees session sight) x sound o = absurd o
claim_is_safe w (Changes place word) x sound o = absurd o
claim_is_safe w (Moves a) x sound o = found (slice_get w.now.actors a) refl o
  where
    taken : (slot word z : ℕ) (b : Bool) → word ≤ z + 2 → z ≤ safe_of w.now.words → Among x (if b then record { actor = a; slot = slot; epoch = word - 2 } ∷ [] else []) → x.epoch ≤ safe_of w.now.words
    taken slot word z true low safe (inl e) = let h = ap (λ (y : Claimed). y.epoch) e in omega (arith, h, low, safe)
    taken slot word z true low safe (inr e) = absurd e
    taken slot word z false low safe e = absurd e

    of_claim : (step : Claiming) → slice_get w.now.actors a ≡ Some (Claims step) → Among x (claimed_by w.now a (Claims step)) → x.epoch ≤ safe_of w.now.words
    of_claim claim.AtRest got o = absurd o
    of_claim (claim.MeetsSlot slot z) got o = absurd o
    of_claim (claim.LoadsSafe slot word) got o = absurd o
    of_claim (claim.TakesSlot slot word z) got o = let k = sound.slots.holds a (Claims (claim.TakesSlot slot word z)) got in taken slot word z (drain_word w.now.words slot == word) k.3 k.1 o
    of_claim (claim.Receives slot c z) got o = absurd o
    of_claim (claim.Runs slot c z action) got o = absurd o
    of_claim (claim.FreesSlot slot z) got o = absurd o

    found : (d : Option EpochMachine) → slice_get w.now.actors a ≡ d → Among x (claims_found w.now a d) → x.epoch ≤ safe_of w.now.words
    found None got o = absurd o
    found (Some (Claims step)) got o = of_claim step got o
    found (Some (Protects s)) got o = absurd o
    found (Some (Refreshes s)) got o = absurd o
    found (Some (Leaves s)) got o = absurd o
    found (Some (Scans s)) got o = absurd o
    found (Some (Raises s)) got o = absurd o
    found (Some (HasRaised s c)) got o = absurd o
    found (Some (Arms s)) got o = absurd o
