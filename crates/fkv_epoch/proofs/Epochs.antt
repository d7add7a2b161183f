-- Epochs in order: what each session goes by was loaded above every epoch that is safe or may become so by a scan under way.
use Rattle.std.proofs.Common.{◌≡◌, ◌≢◌, ℕ, ◌+◌, ◌<◌, ◌≤◌, List, refl, arith, sym, ap, inl, inr, ◌∙◌, true}
use Rattle.std.specs.Prelude.{Some, slice_get, slice_set, ⊤}
use Rattle.fkv_epoch.specs.declared.protecting.Protecting.TheVariants as protect
use Rattle.fkv_epoch.specs.declared.refreshing.Refreshing.TheVariants as refresh
use Rattle.fkv_epoch.specs.declared.leaving.Leaving.TheVariants as leave
use Rattle.fkv_epoch.specs.declared.scanning.Scanning.TheVariants as scan
use Rattle.fkv_epoch.specs.EpochWorld.{EpochMachine, Protects, Refreshes, Leaves, Scans, Claims, Raises, HasRaised, Arms, Sight, Loads}
use Rattle.fkv_epoch.specs.Once.{goes_by, load_of}
use Rattle.fkv_epoch.proofs.Items.{item_written, item_spared, same_or, some_same}

-- a session with this epoch word, these loads and this machine goes by no value that it loaded below m
pub record IsFrom (m word : ℕ) (l : Loads) (machine : EpochMachine) : Type 0 where
  pub loaded : (sight : Sight) → 0 < word → goes_by sight machine ≡ true → m ≤ load_of l sight

-- the same of each session below i
abbrev pub AreFrom : (ℕ → ℕ) → (ℕ → Loads) → List EpochMachine → ℕ → ℕ → Type 0
AreFrom words loads actors m i = (s : ℕ) → s < i → (machine : EpochMachine) → slice_get actors s ≡ Some machine → IsFrom m (words s) (loads s) machine

-- what a machine knows, by how far it has come
abbrev pub Knows : ℕ → ℕ → ℕ → Loads → (ℕ → ℕ → Type 0) → ℕ → EpochMachine → Type 0
Knows sessions epoch word l From a (Protects protect.AtRest) = a < sessions → 0 < word
Knows sessions epoch word l From a (Protects protect.LoadsEpoch) = a < sessions
Knows sessions epoch word l From a (Protects (protect.StoresEpoch e)) = (a < sessions) × (0 < e) × (e ≤ epoch)
Knows sessions epoch word l From a (Protects step) = (a < sessions) × (0 < word)
Knows sessions epoch word l From a (Refreshes refresh.AtRest) = a < sessions → 0 < word
Knows sessions epoch word l From a (Refreshes refresh.LoadsEpoch) = (a < sessions) × (0 < word)
Knows sessions epoch word l From a (Refreshes (refresh.LoadsPhase e)) = (a < sessions) × (0 < word) × (0 < e) × (e ≤ epoch)
Knows sessions epoch word l From a (Refreshes (refresh.LoadsReadOnly e phase)) = (a < sessions) × (0 < word) × (0 < e) × (e ≤ epoch) × (e ≤ l.phase)
Knows sessions epoch word l From a (Refreshes (refresh.LoadsHead e phase read_only)) = (a < sessions) × (0 < word) × (0 < e) × (e ≤ epoch) × (e ≤ l.phase) × (e ≤ l.read_only)
Knows sessions epoch word l From a (Refreshes (refresh.HasLoaded e values)) = (a < sessions) × (0 < word) × (0 < e) × (e ≤ epoch) × (e ≤ l.phase) × (e ≤ l.read_only) × (e ≤ l.head)
Knows sessions epoch word l From a (Refreshes (refresh.StoresEpoch e)) = (a < sessions) × (0 < word) × (0 < e) × (e ≤ epoch) × (e ≤ l.phase) × (e ≤ l.read_only) × (e ≤ l.head)
Knows sessions epoch word l From a (Leaves leave.AtRest) = ⊤
Knows sessions epoch word l From a (Leaves leave.StoresZero) = a < sessions
Knows sessions epoch word l From a (Scans scan.AtRest) = ⊤
Knows sessions epoch word l From a (Scans scan.LoadsEpoch) = ⊤
Knows sessions epoch word l From a (Scans (scan.LoadsSession i m)) = (i < sessions) × (1 ≤ m) × (m ≤ epoch) × From m i
Knows sessions epoch word l From a (Scans (scan.RaisesSafe m)) = (1 ≤ m) × (m ≤ epoch) × From m sessions
Knows sessions epoch word l From a machine = ⊤

-- The bounds are said of the loads in force, none of which is later than the last one.
pub record Epochs (sessions epoch safe : ℕ) (words : ℕ → ℕ) (loads force : ℕ → Loads) (actors : List EpochMachine) : Type 0 where
  pub safe_below : safe + 1 ≤ epoch
  pub loads_below : (s : ℕ) (sight : Sight) → load_of (loads s) sight ≤ epoch
  pub force_below : (s : ℕ) (sight : Sight) → load_of (force s) sight ≤ load_of (loads s) sight
  pub words_below : (s : ℕ) → s < sessions → words s ≤ epoch
  pub above_safe : AreFrom words force actors (safe + 1) sessions
  pub above_word : (s : ℕ) → s < sessions → (machine : EpochMachine) → slice_get actors s ≡ Some machine → IsFrom (words s) (words s) (force s) machine
  pub knows : (a : ℕ) (machine : EpochMachine) → slice_get actors a ≡ Some machine → Knows sessions epoch (words a) (loads a) (AreFrom words force actors) a machine

-- one session's step: it loses no bound, and keeps that of its own word
pub record Change (epoch word : ℕ) (l : Loads) (machine : EpochMachine) (word' : ℕ) (l' : Loads) (machine' : EpochMachine) : Type 0 where
  pub bounds : (m : ℕ) → m ≤ epoch → IsFrom m word l machine → IsFrom m word' l' machine'
  pub own : IsFrom word' word' l' machine'
  pub below : word' ≤ epoch

-- what another machine knows is kept
pub knows_more : (sessions epoch epoch' word word' : ℕ) (l l' : Loads) (From From' : ℕ → ℕ → Type 0) (a : ℕ) (machine : EpochMachine)
    → epoch ≤ epoch' → (a < sessions → word' ≡ word) → l' ≡ l → ((m i : ℕ) → m ≤ epoch → i ≤ sessions → From m i → From' m i)
    → Knows sessions epoch word l From a machine → Knows sessions epoch' word' l' From' a machine
knows_more S E E' w w' l l' F F' a (Protects protect.AtRest) up same e more k = λ i. let s = same i in let h = k i in omega arith
knows_more S E E' w w' l l' F F' a (Protects protect.LoadsEpoch) up same e more k = k
knows_more S E E' w w' l l' F F' a (Protects (protect.StoresEpoch x)) up same e more k = (k.0, k.1, omega arith)
knows_more S E E' w w' l l' F F' a (Protects protect.LoadsPhase) up same e more k = let s = same k.0 in (k.0, omega arith)
knows_more S E E' w w' l l' F F' a (Protects (protect.LoadsReadOnly x)) up same e more k = let s = same k.0 in (k.0, omega arith)
knows_more S E E' w w' l l' F F' a (Protects (protect.LoadsHead x y)) up same e more k = let s = same k.0 in (k.0, omega arith)
knows_more S E E' w w' l l' F F' a (Refreshes refresh.AtRest) up same e more k = λ i. let s = same i in let h = k i in omega arith
knows_more S E E' w w' l l' F F' a (Refreshes refresh.LoadsEpoch) up same e more k = let s = same k.0 in (k.0, omega arith)
knows_more S E E' w w' l l' F F' a (Refreshes (refresh.LoadsPhase x)) up same e more k = let s = same k.0 in (k.0, omega arith, k.2, omega arith)
knows_more S E E' w w' l l' F F' a (Refreshes (refresh.LoadsReadOnly x y)) up same e more k = let s = same k.0 in rw e (k.0, omega arith, k.2, omega arith, k.4)
knows_more S E E' w w' l l' F F' a (Refreshes (refresh.LoadsHead x y z)) up same e more k = let s = same k.0 in rw e (k.0, omega arith, k.2, omega arith, k.4, k.5)
knows_more S E E' w w' l l' F F' a (Refreshes (refresh.HasLoaded x y)) up same e more k = let s = same k.0 in rw e (k.0, omega arith, k.2, omega arith, k.4, k.5, k.6)
knows_more S E E' w w' l l' F F' a (Refreshes (refresh.StoresEpoch x)) up same e more k = let s = same k.0 in rw e (k.0, omega arith, k.2, omega arith, k.4, k.5, k.6)
knows_more S E E' w w' l l' F F' a (Leaves leave.AtRest) up same e more k = tt
knows_more S E E' w w' l l' F F' a (Leaves leave.StoresZero) up same e more k = k
knows_more S E E' w w' l l' F F' a (Scans scan.AtRest) up same e more k = tt
knows_more S E E' w w' l l' F F' a (Scans scan.LoadsEpoch) up same e more k = tt
knows_more S E E' w w' l l' F F' a (Scans (scan.LoadsSession i m)) up same e more k = (k.0, k.1, omega arith, more m i k.2 (omega arith) k.3)
knows_more S E E' w w' l l' F F' a (Scans (scan.RaisesSafe m)) up same e more k = (k.0, omega arith, more m S k.1 (omega arith) k.2)
knows_more S E E' w w' l l' F F' a (Claims x) up same e more k = tt
knows_more S E E' w w' l l' F F' a (Raises x) up same e more k = tt
knows_more S E E' w w' l l' F F' a (HasRaised x y) up same e more k = tt
knows_more S E E' w w' l l' F F' a (Arms x) up same e more k = tt

pub from_moved : (m w w' : ℕ) (l l' : Loads) (machine : EpochMachine) → w' ≡ w → l' ≡ l → IsFrom m w l machine → IsFrom m w' l' machine
from_moved m w w' l l' machine ew el h = record { loaded = λ sight p g. rw el (h.loaded sight (omega (arith, ew, p)) g) }

-- bounds of all sessions below i outlive a step of the actor a
from_kept : (S epoch : ℕ) (W W' : ℕ → ℕ) (L L' : ℕ → Loads) (actors : List EpochMachine) (a : ℕ) (d d' : EpochMachine)
    → slice_get actors a ≡ Some d
    → ((s : ℕ) → s < S → s ≢ a → W' s ≡ W s) → ((s : ℕ) → s ≢ a → L' s ≡ L s)
    → (a < S → Change epoch (W a) (L a) d (W' a) (L' a) d')
    → (m i : ℕ) → m ≤ epoch → i ≤ S → AreFrom W L actors m i → AreFrom W' L' (slice_set actors a d') m i
from_kept S epoch W W' L L' actors a d d' got sw sl change m i below few h s inside machine got' =
    elim (same_or s a) [
      | inl e ↦
          let at_a : slice_get (slice_set actors a d') a ≡ Some d' = item_written actors a d d' got in
          let its : machine ≡ d' = some_same machine d' (sym got' ∙ (ap (slice_get (slice_set actors a d')) e ∙ at_a)) in
          let inside_a : a < S = omega (arith, e, inside, few) in
          let old : IsFrom m (W a) (L a) d = h a (omega (arith, e, inside)) d got in
          rw (e, its) ((change inside_a).bounds m below old)
      | inr n ↦
          let old : slice_get actors s ≡ Some machine = sym (item_spared actors a s d' n) ∙ got' in
          from_moved m (W s) (W' s) (L s) (L' s) machine (sw s (omega (arith, inside, few)) n) (sl s n) (h s inside machine old)
    ]

-- one step of the actor a
pub stepped : (S E E' safe safe' : ℕ) (W W' : ℕ → ℕ) (L L' F F' : ℕ → Loads) (actors : List EpochMachine) (a : ℕ) (d d' : EpochMachine)
    → Epochs S E safe W L F actors → slice_get actors a ≡ Some d
    → E ≤ E' → safe' + 1 ≤ E → AreFrom W F actors (safe' + 1) S
    → ((s : ℕ) → s < S → s ≢ a → W' s ≡ W s) → ((s : ℕ) → s ≢ a → L' s ≡ L s) → ((s : ℕ) → s ≢ a → F' s ≡ F s)
    → (a < S → Change E (W a) (F a) d (W' a) (F' a) d')
    → ((sight : Sight) → load_of (L' a) sight ≤ E') → ((sight : Sight) → load_of (F' a) sight ≤ load_of (L' a) sight)
    → Knows S E (W' a) (L' a) (AreFrom W F actors) a d'
    → Epochs S E' safe' W' L' F' (slice_set actors a d')
stepped S E E' safe safe' W W' L L' F F' actors a d d' old got up safe_up above sw sl sf change loads_a force_a knows_a =
    let kept = from_kept S E W W' F F' actors a d d' got sw sf change in
    record {
      safe_below = omega arith;
      loads_below = λ s sight. elim (same_or s a) [
        | inl e ↦ rw e (loads_a sight)
        | inr n ↦ rw (sl s n) (omega (arith, old.loads_below s sight))
      ];
      force_below = λ s sight. elim (same_or s a) [
        | inl e ↦ rw e (force_a sight)
        | inr n ↦ rw (sl s n, sf s n) (old.force_below s sight)
      ];
      words_below = λ s inside. elim (same_or s a) [
        | inl e ↦
            let h : W' a ≤ E = (change (omega (arith, e, inside))).below in
            omega (arith, h, up, ap W' e)
        | inr n ↦ omega (arith, sw s inside n, old.words_below s inside, up)
      ];
      above_safe = kept (safe' + 1) S safe_up (omega arith) above;
      above_word = λ s inside machine got'. elim (same_or s a) [
        | inl e ↦
            let its : machine ≡ d' = some_same machine d' (sym got' ∙ (ap (slice_get (slice_set actors a d')) e ∙ item_written actors a d d' got)) in
            let inside_a : a < S = omega (arith, e, inside) in
            rw (e, its) (change inside_a).own
        | inr n ↦
            let before : slice_get actors s ≡ Some machine = sym (item_spared actors a s d' n) ∙ got' in
            rw (sw s inside n) (from_moved (W s) (W s) (W s) (F s) (F' s) machine refl (sf s n) (old.above_word s inside machine before))
      ];
      knows = λ b machine got'. elim (same_or b a) [
        | inl e ↦
            let its : machine ≡ d' = some_same machine d' (sym got' ∙ (ap (slice_get (slice_set actors a d')) e ∙ item_written actors a d d' got)) in
            rw (e, its) (knows_more S E E' (W' a) (W' a) (L' a) (L' a) (AreFrom W F actors) (AreFrom W' F' (slice_set actors a d')) a d' up (λ _. refl) refl kept knows_a)
        | inr n ↦
            let before : slice_get actors b ≡ Some machine = sym (item_spared actors a b d' n) ∙ got' in
            knows_more S E E' (W b) (W' b) (L b) (L' b) (AreFrom W F actors) (AreFrom W' F' (slice_set actors a d')) b machine up (λ i. sw b i n) (sl b n) kept (old.knows b machine before)
      ];
    }
