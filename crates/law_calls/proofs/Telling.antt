-- What a fuse around a device in memory foretells tells how it stands.
use Rattle.std.proofs.Common.{◌≡◌, ◌∙◌, ℕ, zero, suc, ◌+◌, ◌-◌, ◌≤◌, List, [], ◌∷◌, length, Bool, true, false, not, refl, sym, ap, subst, arith}
use Rattle.std.specs.Prelude.{◌++◌}
use Rattle.fkv_disk.specs.Bytes.{byte_at}
use Rattle.fkv_disk.specs.Calls.{AllDone, Call, Write, Sync, is_untouched, reads_as}
use Rattle.fkv_disk.specs.Done.{calls_of}
use Rattle.fkv_disk.specs.Fuse.{fuse_foretells, passed_on}
use Rattle.fkv_disk.specs.Kinds.{Foretold, Kind, Reading, Writing, Syncing, after_kind, noted}
use Rattle.fkv_disk.specs.declared.fuses.Fuse.{Fuse}
use Rattle.fkv_disk.specs.declared.fuses.FuseState.{FuseState}
use Rattle.fkv_disk.specs.declared.fuses.FuseState.TheVariants.{Sound, Armed, Blown, BlownAt}
use Rattle.fkv_disk.specs.declared.memory.MemDisk.{MemDisk}
use Rattle.law_calls.specs.Stands.{LetsPass, StandsBehind, state_behind}
use Rattle.law_calls.proofs.Fuses.{all_done, in_memory, more_left, still}
use Rattle.law_calls.proofs.Torn.{byte_on, end_if_done, end_on, torn_on}

-- ---- what is foretold behind calls that passed
noted_on : (met later : List Kind) (before : List Call) → noted (met ++ later) before ≡ noted later (noted met before)
noted_on [] later before = refl
noted_on (Reading ∷ met) later before = noted_on met later before
noted_on (Writing at bytes true ∷ met) later before = noted_on met later (Write at bytes true ∷ before)
noted_on (Writing at bytes false ∷ met) later before = noted_on met later before
noted_on (Syncing true ∷ met) later before = noted_on met later (Sync true ∷ before)
noted_on (Syncing false ∷ met) later before = noted_on met later before

-- each leaves only calls that came through
pub noted_done : (met : List Kind) (before : List Call) → AllDone before → AllDone (noted met before)
noted_done [] before all = all
noted_done (Reading ∷ met) before all = noted_done met before all
noted_done (Writing at bytes true ∷ met) before all = noted_done met (Write at bytes true ∷ before) all
noted_done (Writing at bytes false ∷ met) before all = noted_done met before all
noted_done (Syncing true ∷ met) before all = noted_done met (Sync true ∷ before) all
noted_done (Syncing false ∷ met) before all = noted_done met before all

less : (left n : ℕ) → suc left - suc n ≡ left - n
less left n = omega arith

passes_all : (state : FuseState) (met later : List Kind) (says : List Kind → Foretold) → LetsPass state (length met)
    → fuse_foretells state says (met ++ later) ≡ fuse_foretells (state_behind state (length met)) (λ rest. says (met ++ rest)) later
passes_all Sound [] later says lets = refl
passes_all Sound (Reading ∷ met) later says lets = passes_all Sound met later (after_kind Reading says) lets
passes_all Sound (Writing at bytes done ∷ met) later says lets = passes_all Sound met later (after_kind (Writing at bytes done) says) lets
passes_all Sound (Syncing done ∷ met) later says lets = passes_all Sound met later (after_kind (Syncing done) says) lets
passes_all (Armed left) [] later says lets = ap (λ (n : ℕ). fuse_foretells (Armed n) says later) (let same : left ≡ left - 0 = omega arith in same)
passes_all (Armed zero) (kind ∷ met) later says lets = absurd (omega (arith, lets))
passes_all (Armed (suc left)) (Reading ∷ met) later says lets =
    ap (λ (b : Bool). fuse_foretells (Armed left) (passed_on b Reading says) (met ++ later)) (more_left left) ∙ passes_all (Armed left) met later (after_kind Reading says) (omega (arith, lets))
    ∙ ap (λ (n : ℕ). fuse_foretells (Armed n) (λ rest. says (Reading ∷ met ++ rest)) later) (sym (less left (length met)))
passes_all (Armed (suc left)) (Writing at bytes done ∷ met) later says lets =
    ap (λ (b : Bool). fuse_foretells (Armed left) (passed_on b (Writing at bytes done) says) (met ++ later)) (more_left left) ∙ passes_all (Armed left) met later (after_kind (Writing at bytes done) says) (omega (arith, lets))
    ∙ ap (λ (n : ℕ). fuse_foretells (Armed n) (λ rest. says (Writing at bytes done ∷ met ++ rest)) later) (sym (less left (length met)))
passes_all (Armed (suc left)) (Syncing done ∷ met) later says lets =
    ap (λ (b : Bool). fuse_foretells (Armed left) (passed_on b (Syncing done) says) (met ++ later)) (more_left left) ∙ passes_all (Armed left) met later (after_kind (Syncing done) says) (omega (arith, lets))
    ∙ ap (λ (n : ℕ). fuse_foretells (Armed n) (λ rest. says (Syncing done ∷ met ++ rest)) later) (sym (less left (length met)))
passes_all Blown met later says lets = absurd lets
passes_all (BlownAt at n) met later says lets = absurd lets

-- ---- what the count of calls tells of a fuse
abbrev syncs : ℕ → List Kind
syncs zero = []
syncs (suc n) = Syncing true ∷ syncs n

abbrev count : FuseState → List ℕ → List Call → List Kind → ℕ
count state opening calls later = length (fuse_foretells state (in_memory opening calls) later).calls

none_more : (calls : List Call) → length calls ≡ 0 + length calls
none_more calls = omega arith

count_sound : (opening : List ℕ) (calls : List Call) (n : ℕ) → count Sound opening calls (syncs n) ≡ n + length calls
count_sound opening calls zero = none_more calls
count_sound opening calls (suc n) = count_sound opening (Sync true ∷ calls) n ∙ (let sum : n + suc (length calls) ≡ suc n + length calls = omega arith in sum)

count_few : (left : ℕ) (opening : List ℕ) (calls : List Call) (n : ℕ) → n ≤ left → count (Armed left) opening calls (syncs n) ≡ n + length calls
count_few left opening calls zero few = none_more calls
count_few zero opening calls (suc n) few = absurd (omega (arith, few))
count_few (suc left) opening calls (suc n) few =
    ap (λ (b : Bool). length (fuse_foretells (Armed left) (passed_on b (Syncing true) (in_memory opening calls)) (syncs n)).calls) (more_left left)
    ∙ count_few left opening (Sync true ∷ calls) n (omega (arith, few)) ∙ (let sum : n + suc (length calls) ≡ suc n + length calls = omega arith in sum)

count_many : (left : ℕ) (opening : List ℕ) (calls : List Call) (n : ℕ) → left ≤ n → count (Armed left) opening calls (syncs n) ≡ left + length calls
count_many zero opening calls zero many = none_more calls
count_many zero opening calls (suc n) many = ap (λ (its : Foretold). length its.calls) (still (syncs n) (in_memory opening calls)) ∙ none_more calls
count_many (suc left) opening calls zero many = absurd (omega (arith, many))
count_many (suc left) opening calls (suc n) many =
    ap (λ (b : Bool). length (fuse_foretells (Armed left) (passed_on b (Syncing true) (in_memory opening calls)) (syncs n)).calls) (more_left left)
    ∙ count_many left opening (Sync true ∷ calls) n (omega (arith, many)) ∙ (let sum : left + suc (length calls) ≡ suc left + length calls = omega arith in sum)

-- what two of them foretell alike
abbrev Alike : FuseState → List ℕ → List Call → FuseState → List ℕ → List Call → Type 0
Alike state opening calls state' opening' calls' = (later : List Kind) → fuse_foretells state (in_memory opening calls) later ≡ fuse_foretells state' (in_memory opening' calls') later

counts_alike : (state state' : FuseState) (opening opening' : List ℕ) (calls calls' : List Call) → Alike state opening calls state' opening' calls' → (later : List Kind) → count state opening calls later ≡ count state' opening' calls' later
counts_alike state state' opening opening' calls calls' alike later = ap (λ (its : Foretold). length its.calls) (alike later)

failed_none : (at : ℕ) (bytes : List ℕ) (calls calls' : List Call) → AllDone calls' → Write at bytes false ∷ calls ≡ calls' → ⊥
failed_none at bytes calls calls' all is = subst AllDone (sym is) all

abbrev same_calls : (state state' : FuseState) (opening opening' : List ℕ) (calls calls' : List Call) → Type 0
same_calls state state' opening opening' calls calls' = (state ≡ state') × (opening ≡ opening') × (calls ≡ calls')

-- One that hasn't blown is told by what it foretells.
pub told_by : (state state' : FuseState) (opening opening' : List ℕ) (calls calls' : List Call) → AllDone calls' → LetsPass state' 0 → Alike state opening calls state' opening' calls' → same_calls state state' opening opening' calls calls'
told_by Sound Sound opening opening' calls calls' all lets alike = (refl, ap (λ (its : Foretold). its.opening) (alike []), ap (λ (its : Foretold). its.calls) (alike []))
told_by (Armed left) Sound opening opening' calls calls' all lets alike =
    let none = counts_alike (Armed left) Sound opening opening' calls calls' alike in
    absurd (omega (arith, none [], none (syncs (suc left)), count_many left opening calls (suc left) (omega arith), count_sound opening' calls' (suc left)))
told_by Blown Sound opening opening' calls calls' all lets alike =
    let none = counts_alike Blown Sound opening opening' calls calls' alike in
    absurd (omega (arith, none [], none (syncs 1)))
told_by (BlownAt at n) Sound opening opening' calls calls' all lets alike = absurd (failed_none at _ calls calls' all (ap (λ (its : Foretold). its.calls) (alike [])))
told_by Sound (Armed left') opening opening' calls calls' all lets alike =
    let none = counts_alike Sound (Armed left') opening opening' calls calls' alike in
    absurd (omega (arith, none [], none (syncs (suc left')), count_sound opening calls (suc left'), count_many left' opening' calls' (suc left') (omega arith)))
told_by (Armed left) (Armed left') opening opening' calls calls' all lets alike =
    let both = counts_alike (Armed left) (Armed left') opening opening' calls calls' alike in
    let n = left + left' in
    let same : left ≡ left' = omega (arith, both [], both (syncs n), count_many left opening calls n (omega arith), count_many left' opening' calls' n (omega arith)) in
    (ap Armed same, ap (λ (its : Foretold). its.opening) (alike []), ap (λ (its : Foretold). its.calls) (alike []))
told_by Blown (Armed zero) opening opening' calls calls' all lets alike =
    let none = counts_alike Blown (Armed zero) opening opening' calls calls' alike in
    absurd (omega (arith, none [], none (Writing 0 [] true ∷ [])))
told_by Blown (Armed (suc left')) opening opening' calls calls' all lets alike =
    let none = counts_alike Blown (Armed (suc left')) opening opening' calls calls' alike in
    absurd (omega (arith, none [], none (syncs 1), count_few (suc left') opening' calls' 1 (omega arith)))
told_by (BlownAt at n) (Armed left') opening opening' calls calls' all lets alike = absurd (failed_none at _ calls calls' all (ap (λ (its : Foretold). its.calls) (alike [])))
told_by state Blown opening opening' calls calls' all lets alike = absurd lets
told_by state (BlownAt at n) opening opening' calls calls' all lets alike = absurd lets

lets_more : (state : FuseState) (n : ℕ) → LetsPass state n → LetsPass (state_behind state n) 0
lets_more Sound n lets = tt
lets_more (Armed left) n lets = omega arith
lets_more Blown n lets = absurd lets
lets_more (BlownAt at m) n lets = absurd lets

-- So a fuse and its device are told by the calls that they have met, where each has passed.
pub stands_behind : (was is : Fuse MemDisk) (met : List Kind) → LetsPass was.state (length met)
    → ((later : List Kind) → fuse_foretells is.state (in_memory is.device.opening.items (calls_of is.device.done.items)) later ≡ fuse_foretells was.state (in_memory was.device.opening.items (calls_of was.device.done.items)) (met ++ later))
    → StandsBehind was is met
stands_behind was is met lets foretold =
    let opening = was.device.opening.items in
    let before = calls_of was.device.done.items in
    let all = all_done was.device.done.items in
    let state = state_behind was.state (length met) in
    let alike : Alike is.state is.device.opening.items (calls_of is.device.done.items) state opening (noted met before) =
    (λ later. foretold later ∙ passes_all was.state met later (in_memory opening before) lets
    ∙ ap (λ (says : List Kind → Foretold). fuse_foretells state says later) (λ i rest. record { holds = false; opening = opening; calls = noted_on met rest before i })) in
    let told = told_by is.state state is.device.opening.items opening (calls_of is.device.done.items) (noted met before) (noted_done met before all) (lets_more was.state (length met) lets) alike in
    let read : is.device.bytes.items ≡ reads_as opening (noted met before) = is.device.is_replayed ∙ (λ i. reads_as (told.1 i) (told.2 i)) in
    record {
      state = told.0;
      ends = ap length read ∙ end_if_done opening (noted met before) (noted_done met before all)
          ∙ sym (end_on met opening before (length was.device.bytes.items) (ap length was.device.is_replayed ∙ end_if_done opening before all));
      reads = λ i. ap (λ (l : List ℕ). byte_at l i) read ∙ sym (byte_on met opening before (byte_at was.device.bytes.items i) i (ap (λ (l : List ℕ). byte_at l i) was.device.is_replayed));
      unsynced = λ i. ap (λ (calls : List Call). not (is_untouched calls i)) told.2 ∙ sym (torn_on met before (not (is_untouched before i)) i refl);
    }
