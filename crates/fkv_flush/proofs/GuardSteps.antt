-- Steps by what they touch: one that leaves the epochs alone, and one of a machine of the epochs.
use Rattle.std.proofs.Common.{subst, ◌≡◌, ◌≢◌, ℕ, zero, suc, ◌+◌, ◌<◌, ◌≤◌, ◌⊎◌, List, [], ◌∷◌, length, map, refl, arith, sym, ap, inl, inr, ◌∙◌, Bool, true, false, ◌-◌, ◌*◌, ◌%◌, eq-eqb}
use Rattle.std.specs.Prelude.{Some, slice_get, slice_set, ◌==◌, ◌||◌, ◌&&◌, nat_lt, nat_le}
use Rattle.std.proofs.lemmas.List.{map-set, length-set}
use Rattle.std.proofs.lemmas.Bool.Decides.{nat_tests}
use Rattle.std.proofs.lemmas.Bool.{cases_lt}
use Rattle.fkv_plane.specs.Asked.{word_at}
use Rattle.fkv_plane.specs.Places.{session_place}
use Rattle.fkv_plane.specs.declared.places.SessionWord.TheVariants as own
use Rattle.fkv_epoch.specs.declared.arming.Arming.TheVariants as arm
use Rattle.fkv_epoch.specs.EpochWorld.{EpochMachine, Arms, Sight, OfPhase, OfReadOnly, OfHead, Armed, Claimed, Loads, safe_of, epoch_of, own_epoch, is_own, loaded, with_load, sight_of}
use Rattle.fkv_epoch.specs.EpochWorld as epochs
use Rattle.fkv_epoch.specs.Once.{Among, Counts, goes_by}
use Rattle.fkv_epoch.proofs.Shown.{item_written, some_same, word_spared, changes_sound}
use Rattle.fkv_epoch.proofs.Shown as epochs_sound
use Rattle.fkv_flush.specs.GuardLevels.{Levels, levels_of, AreInOrder, Rises}
use Rattle.fkv_flush.specs.GuardSeen.{LastSeen}
use Rattle.fkv_flush.specs.GuardWorld.{Actor, GuardNow, GuardWorld, epoch_now, epoch_world}
use Rattle.fkv_flush.specs.Guarded.{is_steady, seen_at, seen_of, undecided_at, GoesBy}
use Rattle.fkv_flush.proofs.Guard.{SeesOn, knows_on, fresh_on}
use Rattle.fkv_flush.proofs.GuardSound.{Knows, knows_more, IsSound, Awake, machine_of, machine_at, after, assembled}

pub same_item : {X : Type 0} (xs : List X) (i : ℕ) (x : X) → slice_get xs i ≡ Some x → slice_set xs i x ≡ xs
same_item [] i x e = refl
same_item (y ∷ ys) zero x e = let h : y ≡ x = cc in ap (λ z. z ∷ ys) (sym h)
same_item (y ∷ ys) (suc i) x e = ap (λ zs. y ∷ zs) (same_item ys i x e)

-- an actor that keeps its machine of the epochs
pub same_machines : (actors : List Actor) (a : ℕ) (x x' : Actor) → slice_get actors a ≡ Some x → x'.machine ≡ x.machine → map machine_of (slice_set actors a x') ≡ map machine_of actors
same_machines actors a x x' got same = map-set machine_of actors a x' ∙ (ap (slice_set (map machine_of actors) a) same ∙ same_item (map machine_of actors) a x.machine (machine_at actors a x got))

-- offsets that stay have not fallen
pub rises_same : (l l' : Levels) → l' ≡ l → Rises l l'
rises_same l l' e = rw e (record { closed = omega arith; head = omega arith; flushed = omega arith; safe_read_only = omega arith; read_only = omega arith; tail = omega arith; limit = omega arith })

-- who goes by a value, where its epoch word is the same and its machine goes by the value too
pub goes_with : (n n' : epochs.EpochNow) (a : ℕ) (d d' : EpochMachine) (sight : Sight) → n'.sessions ≡ n.sessions → (a < n.sessions → own_epoch n'.words a ≡ own_epoch n.words a) → slice_get n.actors a ≡ Some d → slice_get n'.actors a ≡ Some d'
    → goes_by sight d' ≡ goes_by sight d → Counts n a sight → Counts n' a sight
goes_with n n' a d d' sight same_sessions same_word got got' same c =
    let its : c.machine ≡ d = some_same c.machine d (sym c.its_machine ∙ got) in
    record {
      is_session = let h = c.is_session in omega (arith, h, same_sessions);
      is_protected = let h = c.is_protected in let e = same_word c.is_session in omega (arith, h, e);
      machine = d';
      its_machine = got';
      has_loaded = same ∙ (sym (ap (goes_by sight) its) ∙ c.has_loaded);
    }

-- A step that touches no word of the epochs and no action, and after which the actor goes by what it went by before.
pub worded_past : (w : GuardWorld) (a : ℕ) (x x' : Actor) (words' : List ℕ) (past' : epochs.EpochPast) → IsSound w → slice_get w.now.actors a ≡ Some x
    → past'.loads ≡ w.past.loads → past'.armed ≡ w.past.armed → past'.claims ≡ w.past.claims
    → length words' ≡ length w.now.words
    → epochs_sound.IsSound (epoch_world (after w a x' words' w.now.actions past'))
    → Rises (levels_of w.now.words) (levels_of words') → AreInOrder (levels_of words') → (levels_of words').limit ≤ (levels_of words').closed + w.now.places.ring
    → ((s : ℕ) → s < w.now.places.sessions → own_epoch words' s ≡ own_epoch w.now.words s)
    → ((s : ℕ) → GoesBy w.now s OfReadOnly → (levels_of words').safe_read_only ≤ (seen_of w.now.actors s).read_only)
    → ((s : ℕ) → GoesBy w.now s OfHead → (levels_of words').closed ≤ (seen_of w.now.actors s).head)
    → safe_of words' ≡ safe_of w.now.words
    → ((sight : Sight) → goes_by sight x'.machine ≡ goes_by sight x.machine)
    → is_steady x'.machine ≡ is_steady x.machine
    → ((slot c : ℕ) → x'.machine ≡ Arms (arm.StoresEpoch slot c) → x.machine ≡ Arms (arm.StoresEpoch slot c))
    → x'.seen ≡ x.seen
    → ((addr : ℕ) → x'.undecided ≡ Some addr → (x.undecided ≡ Some addr) ⊎ (Awake w.now a x.machine × ((levels_of w.now.words).read_only ≤ addr) × (addr < (levels_of words').tail)))
    → Knows w.now.shape (levels_of words') (Awake w.now a x.machine) x'.machine x'.undecided x'.work
    → IsSound (after w a x' words' w.now.actions past')
worded_past w a x x' words' past' sound got same_loads same_armed same_claims same_length epochs' up order cover own low_read_only low_head safe goes steady arms seen fresh knows =
    let n : GuardNow = w.now in
    let w' : GuardWorld = after w a x' words' n.actions past' in
    let n' : GuardNow = w'.now in
    let l : Levels = levels_of n.words in
    let l' : Levels = levels_of words' in
    let at_a : slice_get n'.actors a ≡ Some x' = item_written n.actors a x x' got in
    let forth : (sight : Sight) → GoesBy n a sight → GoesBy n' a sight = λ sight c.
    goes_with (epoch_now n) (epoch_now n') a x.machine x'.machine sight refl (own a) (machine_at n.actors a x got) (machine_at n'.actors a x' at_a) (goes sight) c in
    let back : (sight : Sight) → GoesBy n' a sight → GoesBy n a sight = λ sight c.
    goes_with (epoch_now n') (epoch_now n) a x'.machine x.machine sight refl (λ h. sym (own a h)) (machine_at n'.actors a x' at_a) (machine_at n.actors a x got) (sym (goes sight)) c in
    let seen_here : seen_of n'.actors a ≡ seen_of n.actors a = ap seen_at at_a ∙ (seen ∙ sym (ap seen_at got)) in
    let same_read_only = ap (λ (y : LastSeen). y.read_only) seen_here in
    let same_head = ap (λ (y : LastSeen). y.head) seen_here in
    let on : SeesOn l' (GoesBy n) (GoesBy n') (seen_of n.actors) (seen_of n'.actors) w.past.loads past'.loads a = record {
      read_only = λ c. inl (back OfReadOnly c, same_read_only, ap (λ (f : ℕ → Loads). (f a).read_only) same_loads);
      head = λ c. inl (back OfHead c, same_head, ap (λ (f : ℕ → Loads). (f a).head) same_loads);
      read_only_below = let h = sound.guard.safe.read_only_below a in let u = up.read_only in omega (arith, same_read_only, h, u);
      head_below = let h = sound.guard.safe.head_below a in let u = up.head in omega (arith, same_head, h, u);
    } in
    assembled w a x x' words' n.actions past' sound got same_length epochs' up order cover (λ s h i. own s h) (λ s i. ap (λ (f : ℕ → Loads). f s) same_loads) on low_read_only low_head (omega (arith, safe))
    (λ y o. inl (subst (Among y) same_claims o)) (λ all y o. inl (subst (Among y) same_armed o)) (λ b slot c i its. refl)
    (λ all slot c action its home.
    knows_on l l' (GoesBy n) (GoesBy n') (seen_of n.actors) (seen_of n'.actors) w.past.loads past'.loads c action up all
    (sound.arming a slot c action (machine_at n.actors a x got ∙ ap Some (arms slot c its)) home))
    (λ addr e. elim (fresh addr e) [
      | inl o ↦
          let f = sound.guard.fresh a addr (ap undecided_at got ∙ o) in
          fresh_on l l' (GoesBy n) (GoesBy n') (seen_of n.actors) (seen_of n'.actors) a addr up (forth OfReadOnly f.counts) same_read_only f
      | inr o ↦ record {
        counts = forth OfReadOnly o.0.0;
        above = let h = sound.guard.safe.read_only_below a in let low = o.1 in omega (arith, same_read_only, h, low);
        below = o.2;
      }
    ])
    (λ addr e. elim (fresh addr e) [
      | inl o ↦ steady ∙ sound.steady a addr x got o
      | inr o ↦ steady ∙ o.0.1
    ])
    (knows_more n.shape l' l' (Awake n a x.machine) (Awake n' a x'.machine) x'.machine x'.undecided x'.work (rises_same l' l' refl) (λ k. (forth OfReadOnly k.0, steady ∙ k.1)) knows)

pub worded : (w : GuardWorld) (a : ℕ) (x x' : Actor) (words' : List ℕ) → IsSound w → slice_get w.now.actors a ≡ Some x
    → length words' ≡ length w.now.words
    → epochs_sound.IsSound (epoch_world (after w a x' words' w.now.actions w.past))
    → Rises (levels_of w.now.words) (levels_of words') → AreInOrder (levels_of words') → (levels_of words').limit ≤ (levels_of words').closed + w.now.places.ring
    → ((s : ℕ) → s < w.now.places.sessions → own_epoch words' s ≡ own_epoch w.now.words s)
    → ((s : ℕ) → GoesBy w.now s OfReadOnly → (levels_of words').safe_read_only ≤ (seen_of w.now.actors s).read_only)
    → ((s : ℕ) → GoesBy w.now s OfHead → (levels_of words').closed ≤ (seen_of w.now.actors s).head)
    → safe_of words' ≡ safe_of w.now.words
    → ((sight : Sight) → goes_by sight x'.machine ≡ goes_by sight x.machine)
    → is_steady x'.machine ≡ is_steady x.machine
    → ((slot c : ℕ) → x'.machine ≡ Arms (arm.StoresEpoch slot c) → x.machine ≡ Arms (arm.StoresEpoch slot c))
    → x'.seen ≡ x.seen
    → ((addr : ℕ) → x'.undecided ≡ Some addr → (x.undecided ≡ Some addr) ⊎ (Awake w.now a x.machine × ((levels_of w.now.words).read_only ≤ addr) × (addr < (levels_of words').tail)))
    → Knows w.now.shape (levels_of words') (Awake w.now a x.machine) x'.machine x'.undecided x'.work
    → IsSound (after w a x' words' w.now.actions w.past)
worded w a x x' words' sound got = worded_past w a x x' words' w.past sound got refl refl refl

-- A step that writes one word, none of the epochs' and no offset, or none at all.
pub calm : (w : GuardWorld) (a : ℕ) (x x' : Actor) (words' : List ℕ) → IsSound w → slice_get w.now.actors a ≡ Some x
    → length words' ≡ length w.now.words
    → epochs_sound.IsSound (epoch_world (after w a x' words' w.now.actions w.past))
    → levels_of words' ≡ levels_of w.now.words
    → ((s : ℕ) → s < w.now.places.sessions → own_epoch words' s ≡ own_epoch w.now.words s) → safe_of words' ≡ safe_of w.now.words
    → x'.machine ≡ x.machine → x'.seen ≡ x.seen
    → ((addr : ℕ) → x'.undecided ≡ Some addr → x.undecided ≡ Some addr)
    → Knows w.now.shape (levels_of w.now.words) (Awake w.now a x.machine) x'.machine x'.undecided x'.work
    → IsSound (after w a x' words' w.now.actions w.past)
calm w a x x' words' sound got same_length epochs' same own safe machine seen undecided knows =
    let up = rises_same (levels_of w.now.words) (levels_of words') same in
    let back = sym same in
    worded w a x x' words' sound got same_length epochs' up
    (subst AreInOrder back sound.guard.in_order)
    (subst (λ (m : Levels). m.limit ≤ m.closed + w.now.places.ring) back sound.guard.cover) own
    (subst (λ (m : Levels). (s : ℕ) → GoesBy w.now s OfReadOnly → m.safe_read_only ≤ (seen_of w.now.actors s).read_only) back sound.guard.safe.read_only)
    (subst (λ (m : Levels). (s : ℕ) → GoesBy w.now s OfHead → m.closed ≤ (seen_of w.now.actors s).head) back sound.guard.safe.head)
    safe (λ sight. ap (goes_by sight) machine) (ap is_steady machine) (λ slot c e. sym machine ∙ e) seen
    (λ addr e. inl (undecided addr e)) (subst (λ (m : Levels). Knows w.now.shape m (Awake w.now a x.machine) x'.machine x'.undecided x'.work) back knows)

-- a machine goes on, and no word changes
pub looks : (w : GuardWorld) (a : ℕ) (x x' : Actor) → IsSound w → slice_get w.now.actors a ≡ Some x → x'.machine ≡ x.machine → x'.seen ≡ x.seen
    → ((addr : ℕ) → x'.undecided ≡ Some addr → x.undecided ≡ Some addr)
    → Knows w.now.shape (levels_of w.now.words) (Awake w.now a x.machine) x'.machine x'.undecided x'.work
    → IsSound (after w a x' w.now.words w.now.actions w.past)
looks w a x x' sound got machine seen undecided knows =
    calm w a x x' w.now.words sound got refl (rw (same_machines w.now.actors a x x' got machine) sound.epochs) refl (λ s h. refl) refl machine seen undecided knows

left_true : (b c : Bool) → b ≡ true → (b || c) ≡ true
left_true true c e = refl
left_true false c e = cc

right_true : (b c : Bool) → c ≡ true → (b || c) ≡ true
right_true true c e = refl
right_true false true e = refl
right_true false false e = cc

and_true : (b c : Bool) → b ≡ true → c ≡ true → (b && c) ≡ true
and_true true true p q = refl
and_true true false p q = cc
and_true false true p q = cc
and_true false false p q = cc

own_low : (S p : ℕ) → p < 2 → is_own S p ≡ true
own_low S p h =
    let t : nat_lt p 2 ≡ true = grind (arith, nat_tests) in
    left_true (nat_lt p 2 || (nat_le 16 p && nat_lt p 24)) (nat_le 24 p && nat_lt p (24 + 16 * S) && (p - 24) % 16 == 0) (left_true (nat_lt p 2) (nat_le 16 p && nat_lt p 24) t)

own_session : (S s p : ℕ) → s < S → p ≡ 24 + 16 * s → is_own S p ≡ true
own_session S s p h e =
    let t : nat_le 24 p ≡ true = grind (arith, nat_tests) in
    let u : nat_lt p (24 + 16 * S) ≡ true = grind (arith, nat_tests) in
    let m : (p - 24) % 16 ≡ 0 = omega arith in
    let v : ((p - 24) % 16 == 0) ≡ true = eq-eqb ((p - 24) % 16) 0 m in
    right_true (nat_lt p 2 || (nat_le 16 p && nat_lt p 24)) (nat_le 24 p && nat_lt p (24 + 16 * S) && (p - 24) % 16 == 0) (and_true (nat_le 24 p && nat_lt p (24 + 16 * S)) ((p - 24) % 16 == 0) (and_true (nat_le 24 p) (nat_lt p (24 + 16 * S)) t u) v)

not_both : (b : Bool) {X : Type 0} → b ≡ true → b ≡ false → X
not_both b t f = cc

-- a place that is not the epochs' has none of their words
pub foreign_safe : (S p : ℕ) → is_own S p ≡ false → 1 ≢ p
foreign_safe S p f e = not_both (is_own S p) (own_low S p (omega (arith, e))) f

pub foreign_low : (S p : ℕ) → is_own S p ≡ false → 2 ≤ p
foreign_low S p f = elim (cases_lt p 2) [ inl h ↦ not_both (is_own S p) (own_low S p h) f | inr h ↦ h ]

pub foreign_session : (S s p : ℕ) → is_own S p ≡ false → s < S → session_place s own.Epoch ≢ p
foreign_session S s p f h e = not_both (is_own S p) (own_session S s p h (omega (arith, e))) f

-- a place that is neither the epochs' nor an offset's
pub record IsElsewhere (sessions place : ℕ) : Type 0 where
  pub foreign : is_own sessions place ≡ false
  pub no_offset : (place < 3) ⊎ (10 ≤ place)

pub levels_elsewhere : (S p v : ℕ) (words : List ℕ) → IsElsewhere S p → levels_of (slice_set words p v) ≡ levels_of words
levels_elsewhere S p v words e =
    let at : (k : ℕ) → 3 ≤ k → k < 10 → word_at (slice_set words p v) k ≡ word_at words k = λ k low high. word_spared words p v k (λ i. elim e.no_offset [ inl h ↦ omega (arith, h, i, low) | inr h ↦ omega (arith, h, i, high) ]) in
    rw (at 9 (omega arith) (omega arith), at 8 (omega arith) (omega arith), at 7 (omega arith) (omega arith), at 6 (omega arith) (omega arith), at 5 (omega arith) (omega arith), at 4 (omega arith) (omega arith), at 3 (omega arith) (omega arith)) refl

-- a word that is neither the epochs' nor an offset's is written
pub writes_elsewhere : (w : GuardWorld) (a : ℕ) (x x' : Actor) (p v : ℕ) → IsSound w → slice_get w.now.actors a ≡ Some x → IsElsewhere w.now.places.sessions p → x'.machine ≡ x.machine → x'.seen ≡ x.seen
    → ((addr : ℕ) → x'.undecided ≡ Some addr → x.undecided ≡ Some addr)
    → Knows w.now.shape (levels_of w.now.words) (Awake w.now a x.machine) x'.machine x'.undecided x'.work
    → IsSound (after w a x' (slice_set w.now.words p v) w.now.actions w.past)
writes_elsewhere w a x x' p v sound got place machine seen undecided knows =
    let S : ℕ = w.now.places.sessions in
    calm w a x x' (slice_set w.now.words p v) sound got (length-set w.now.words p v)
    (rw (same_machines w.now.actors a x x' got machine) (changes_sound (epoch_world w) p v place.foreign sound.epochs))
    (levels_elsewhere S p v w.now.words place)
    (λ s h. word_spared w.now.words p v (session_place s own.Epoch) (foreign_session S s p place.foreign h))
    (word_spared w.now.words p v 1 (foreign_safe S p place.foreign)) machine seen undecided knows

-- words past the sessions' blocks
past_sessions : (b c d : Bool) → b ≡ false → c ≡ false → d ≡ false → ((b || c) || d) ≡ false
past_sessions b c d eb ec ed = rw (eb, ec, ed) refl

pub high_elsewhere : (S p : ℕ) → 24 + 16 * S ≤ p → IsElsewhere S p
high_elsewhere S p h =
    let low : nat_lt p 2 ≡ false = grind (arith, nat_tests) in
    let drain : nat_lt p 24 ≡ false = grind (arith, nat_tests) in
    let session : nat_lt p (24 + 16 * S) ≡ false = grind (arith, nat_tests) in
    record { foreign = rw (low, drain, session) (none (nat_le 16 p) (nat_le 24 p) ((p - 24) % 16 == 0)); no_offset = inr (omega (arith, h)) }
  where
    none : (x y z : Bool) → ((false || (x && false)) || ((y && false) && z)) ≡ false
    none true true z = refl
    none true false z = refl
    none false true z = refl
    none false false z = refl
