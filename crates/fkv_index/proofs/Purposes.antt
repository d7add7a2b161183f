-- A search comes only to what one of its purpose may come to, and `Full` only where it is so.
use Rattle.std.proofs.Common.{◌≡◌, ℕ, zero, suc, ◌+◌, ◌-◌, ◌≤◌, List, [], ◌∷◌, refl, arith, ap, ◌∙◌, subst, Bool, true, false, eqb-true}
use Rattle.std.specs.Prelude.{Option, Some, None, slice_get, slice_set, replicate, ◌==◌, ◌&&◌, nat_lt, nat_le, if◌then◌else◌, ⊤}
use Rattle.std.proofs.lemmas.Bool.Decides.{nat_tests}
use Rattle.fkv_plane.specs.declared.asks.Ask.TheVariants.{Done}
use Rattle.fkv_plane.specs.declared.places.Places.{Places}
use Rattle.fkv_plane.specs.Places.{overflow_place}
use Rattle.fkv_plane.specs.Asked.{word_at, reply_to}
use Rattle.fkv_index.specs.declared.homes.Home.{Home}
use Rattle.fkv_index.specs.declared.slot_words.SlotWord.{SlotWord}
use Rattle.fkv_index.specs.declared.slot_words.SlotWord.TheVariants.{Empty, Tagged, Spoiled}
use Rattle.fkv_index.specs.declared.finding.Purpose.{Purpose}
use Rattle.fkv_index.specs.declared.finding.Purpose.TheVariants.{Read, Update, UpdateWithin}
use Rattle.fkv_index.specs.declared.finding.Linking.{Linking}
use Rattle.fkv_index.specs.declared.finding.Linking.TheVariants.{Never, Once, Within, Made}
use Rattle.fkv_index.specs.declared.finding.Found.{Found}
use Rattle.fkv_index.specs.declared.finding.Found.TheVariants.{Slot, NoSlot, Full, Kept, Contended}
use Rattle.fkv_index.specs.declared.finding.FindAnswer.{FindAnswer}
use Rattle.fkv_index.specs.declared.finding.FindStep.{FindStep}
use Rattle.fkv_index.specs.declared.finding.FindStep.TheVariants.{AtRest, LoadsSlot, LoadsLink, LoadsTaken, TakesBucket, LinksBucket}
use Rattle.fkv_index.specs.declared.finding.Finding.{Finding}
use Rattle.fkv_index.specs.declared.finding.Led.{Led}
use Rattle.fkv_index.specs.declared.finding.Led.TheVariants.{On, Ends}
use Rattle.fkv_index.specs.Slots.{slot_word, link_of}
use Rattle.fkv_index.specs.Finding.{find_step_ask, find_ask, find_led, slot_led, entered, ended_list, link_led, led_to, led_ask, first_finding, find_next, is_kept, taken_led, takes_led}
use Rattle.fkv_index.specs.Buckets.{bucket_words}
use Rattle.fkv_index.specs.IndexWorld.{SlotWork, Seeks, Holds, Enters, IndexActor, IndexEvent, BeginsFind, BeginsPublish, Moves, Changes, IndexNow, IndexWorld, taken_of, is_barred, may_find, find_begun, work_begun, publish_begun, actor_after, moved, index_happens, index_run, index_opening, rested_actor}
use Rattle.fkv_index.specs.OneEntry.{spare_in}
use Rattle.fkv_index.specs.Searches.{IsFoundFor, AnswersPurpose, IsFullThen, FullIsSo}
use Rattle.fkv_index.proofs.Orders.{passed_row, passed_among}
use Rattle.fkv_index.proofs.Rows.{SeekKnows, WorkKnows}
use Rattle.fkv_index.proofs.Begun.{LoadsAlone, IsReading}
use Rattle.fkv_index.proofs.Losing.{asks_on}
use Rattle.fkv_index.proofs.Runs.{IsSound, each_set}

-- a search for an update may link, or has linked
abbrev pub MayLink : Finding → Type 0
MayLink f = f.linking ≡ Never → ⊥

-- a search without a bound
abbrev pub IsUnbounded : Finding → Type 0
IsUnbounded f = (bound : ℕ) → f.linking ≡ Within bound → ⊥

-- what an update may find, and what one without a bound doesn't
abbrev pub IsNoMiss : Found → Type 0
IsNoMiss NoSlot = ⊥
IsNoMiss found = ⊤

abbrev IsNotKept : Found → Type 0
IsNotKept Kept = ⊥
IsNotKept found = ⊤

-- where a reply leads, for what is found at an end
abbrev pub LedSo : (Found → Type 0) → Led → Type 0
LedSo P (On f) = f.step ≡ AtRest → ⊥
LedSo P (Ends f found) = P found

pub led_so : (P : Found → Type 0) (led : Led) (answer : FindAnswer) → LedSo P led → led_ask led ≡ Done answer → P answer.found
led_so P (On f) answer knows e = absurd (asks_on f f.step answer knows e)
led_so P (Ends f found) answer knows e = let same : found ≡ answer.found = cc in subst P same knows

slot_so : (P : Found → Type 0) (f : Finding) (slot word : ℕ) (its : SlotWord) → ((place it : ℕ) → P (Slot place it)) → P Contended → LedSo P (slot_led f slot word its)
slot_so P f slot word Empty slots lost = slots (f.base + slot) 0
slot_so P f slot word Spoiled slots lost = lost
slot_so P f slot word (Tagged tag) slots lost = tested (tag == f.home.tag) (nat_lt (slot + 1) 7)
  where
    tested : (a b : Bool) → LedSo P (if a then Ends f (Slot (f.base + slot) word) else On (record f { step = if b then LoadsSlot (slot + 1) else LoadsLink }))
    tested true b = slots (f.base + slot) word
    tested false true = λ e. cc
    tested false false = λ e. cc

enters_so : (P : Found → Type 0) (p : Places) (f : Finding) (number : ℕ) → P Contended → LedSo P (entered p f number)
enters_so P p f number lost = tested (nat_lt 0 f.links && nat_le number p.overflow)
  where
    tested : (b : Bool) → LedSo P (if b then On (record f { base = overflow_place p number 0; links = f.links - 1; step = LoadsSlot 0 }) else Ends f Contended)
    tested true = λ e. cc
    tested false = lost

link_so : (P : Found → Type 0) (p : Places) (f : Finding) (word : ℕ) → (f.linking ≡ Never → P NoSlot) → P Contended → LedSo P (link_led p f word)
link_so P p f word none lost = tested (link_of word == 0)
  where
    links : (b : Bool) → LedSo P (On (record f { step = if b then LoadsTaken word else LinksBucket word }))
    links true = λ e. cc
    links false = λ e. cc

    ended : (linking : Linking) → f.linking ≡ linking → LedSo P (ended_list f word linking)
    ended Never same = none same
    ended Once same = links (f.spare == 0)
    ended (Within bound) same = links true
    ended Made same = lost

    tested : (b : Bool) → LedSo P (if b then ended_list f word f.linking else entered p f (link_of word))
    tested true = ended f.linking refl
    tested false = enters_so P p f (link_of word) lost

taken_so : (P : Found → Type 0) (p : Places) (f : Finding) (word taken : ℕ) → ((bound : ℕ) → f.linking ≡ Within bound → P Kept) → P Full → LedSo P (taken_led p f word taken)
taken_so P p f word taken bounded full = tested f.linking refl (f.spare == 0) (nat_lt taken p.overflow)
  where
    free : (none few : Bool) → LedSo P (if none then (if few then On (record f { step = TakesBucket word taken }) else Ends f Full) else On (record f { step = LinksBucket word }))
    free true true = λ e. cc
    free true false = full
    free false few = λ e. cc

    kept : (b none few : Bool) → P Kept → LedSo P (if b then Ends f Kept else if none then (if few then On (record f { step = TakesBucket word taken }) else Ends f Full) else On (record f { step = LinksBucket word }))
    kept true none few its = its
    kept false none few its = free none few

    tested : (linking : Linking) → f.linking ≡ linking → (none few : Bool)
        → LedSo P (if is_kept linking taken then Ends f Kept else if none then (if few then On (record f { step = TakesBucket word taken }) else Ends f Full) else On (record f { step = LinksBucket word }))
    tested Never same none few = free none few
    tested Once same none few = free none few
    tested (Within bound) same none few = kept (nat_le bound taken) none few (bounded bound same)
    tested Made same none few = free none few

-- an update never comes to no slot, whatever it is replied
pub update_led : (p : Places) (f : Finding) (step : FindStep) (reply : ℕ) → MayLink f → LedSo IsNoMiss (find_led p f step reply)
unfolding find_led
update_led p f AtRest reply may = tt
update_led p f (LoadsSlot slot) reply may = slot_so IsNoMiss f slot reply (slot_word reply) (λ place it. tt) tt
update_led p f LoadsLink reply may = link_so IsNoMiss p f reply may tt
update_led p f (LoadsTaken word) reply may = taken_so IsNoMiss p f word reply (λ bound same. tt) tt
update_led p f (TakesBucket word taken) reply may = tested (reply == taken)
  where
    tested : (b : Bool) → LedSo IsNoMiss (if b then On (record f { spare = taken + 1; step = LinksBucket word }) else Ends f Contended)
    tested true = λ e. cc
    tested false = tt
update_led p f (LinksBucket word) reply may = tested (reply == word)
  where
    tested : (b : Bool) → LedSo IsNoMiss (if b then entered p (record f { linking = Made; spare = 0 }) f.spare else Ends f Contended)
    tested true = enters_so IsNoMiss p (record f { linking = Made; spare = 0 }) f.spare tt
    tested false = tt

-- one without a bound never to `Kept`
pub unbounded_led : (p : Places) (f : Finding) (step : FindStep) (reply : ℕ) → IsUnbounded f → LedSo IsNotKept (find_led p f step reply)
unfolding find_led
unbounded_led p f AtRest reply free = tt
unbounded_led p f (LoadsSlot slot) reply free = slot_so IsNotKept f slot reply (slot_word reply) (λ place it. tt) tt
unbounded_led p f LoadsLink reply free = link_so IsNotKept p f reply (λ never. tt) tt
unbounded_led p f (LoadsTaken word) reply free = taken_so IsNotKept p f word reply (λ bound same. free bound same) tt
unbounded_led p f (TakesBucket word taken) reply free = tested (reply == taken)
  where
    tested : (b : Bool) → LedSo IsNotKept (if b then On (record f { spare = taken + 1; step = LinksBucket word }) else Ends f Contended)
    tested true = λ e. cc
    tested false = tt
unbounded_led p f (LinksBucket word) reply free = tested (reply == word)
  where
    tested : (b : Bool) → LedSo IsNotKept (if b then entered p (record f { linking = Made; spare = 0 }) f.spare else Ends f Contended)
    tested true = enters_so IsNotKept p (record f { linking = Made; spare = 0 }) f.spare tt
    tested false = tt

-- and a read never to `Full`
pub read_led : (p : Places) (f : Finding) (step : FindStep) (reply : ℕ) → f.step ≡ step → IsReading f → LedSo (IsFoundFor Read) (find_led p f step reply)
unfolding find_led
read_led p f AtRest reply same reads = tt
read_led p f (LoadsSlot slot) reply same reads = slot_so (IsFoundFor Read) f slot reply (slot_word reply) (λ place it. tt) tt
read_led p f LoadsLink reply same reads = link_so (IsFoundFor Read) p f reply (λ e. tt) tt
read_led p f (LoadsTaken word) reply same reads = absurd (subst LoadsAlone same reads.loads)
read_led p f (TakesBucket word taken) reply same reads = absurd (subst LoadsAlone same reads.loads)
read_led p f (LinksBucket word) reply same reads = absurd (subst LoadsAlone same reads.loads)

-- it links as before, or has linked
slot_keeps : (P : Linking → Type 0) (f : Finding) (slot word : ℕ) (its : SlotWord) → P f.linking → P (led_to (slot_led f slot word its)).linking
slot_keeps P f slot word Empty links = links
slot_keeps P f slot word Spoiled links = links
slot_keeps P f slot word (Tagged tag) links = tested (tag == f.home.tag)
  where
    tested : (a : Bool) → P (led_to (if a then Ends f (Slot (f.base + slot) word) else On (record f { step = if nat_lt (slot + 1) 7 then LoadsSlot (slot + 1) else LoadsLink }))).linking
    tested true = links
    tested false = links

enters_keeps : (P : Linking → Type 0) (p : Places) (f : Finding) (number : ℕ) → P f.linking → P (led_to (entered p f number)).linking
enters_keeps P p f number links = tested (nat_lt 0 f.links && nat_le number p.overflow)
  where
    tested : (b : Bool) → P (led_to (if b then On (record f { base = overflow_place p number 0; links = f.links - 1; step = LoadsSlot 0 }) else Ends f Contended)).linking
    tested true = links
    tested false = links

led_keeps : (P : Linking → Type 0) (p : Places) (f : Finding) (step : FindStep) (reply : ℕ) → P Made → P f.linking → P (led_to (find_led p f step reply)).linking
unfolding find_led
led_keeps P p f AtRest reply made links = links
led_keeps P p f (LoadsSlot slot) reply made links = slot_keeps P f slot reply (slot_word reply) links
led_keeps P p f LoadsLink reply made links = tested (link_of reply == 0)
  where
    ended : (linking : Linking) → P (led_to (ended_list f reply linking)).linking
    ended Never = links
    ended Once = links
    ended (Within bound) = links
    ended Made = links

    tested : (b : Bool) → P (led_to (if b then ended_list f reply f.linking else entered p f (link_of reply))).linking
    tested true = ended f.linking
    tested false = enters_keeps P p f (link_of reply) links
led_keeps P p f (LoadsTaken word) reply made links = tested (is_kept f.linking reply) (f.spare == 0) (nat_lt reply p.overflow)
  where
    tested : (kept none few : Bool) → P (led_to (if kept then Ends f Kept else if none then (if few then On (record f { step = TakesBucket word reply }) else Ends f Full) else On (record f { step = LinksBucket word }))).linking
    tested true none few = links
    tested false true true = links
    tested false true false = links
    tested false false few = links
led_keeps P p f (TakesBucket word taken) reply made links = tested (reply == taken)
  where
    tested : (b : Bool) → P (led_to (if b then On (record f { spare = taken + 1; step = LinksBucket word }) else Ends f Contended)).linking
    tested true = links
    tested false = links
led_keeps P p f (LinksBucket word) reply made links = tested (reply == word)
  where
    tested : (b : Bool) → P (led_to (if b then entered p (record f { linking = Made; spare = 0 }) f.spare else Ends f Contended)).linking
    tested true = enters_keeps P p (record f { linking = Made; spare = 0 }) f.spare made
    tested false = links

-- an update stays one, with no bound if it had none
pub led_may : (p : Places) (f : Finding) (step : FindStep) (reply : ℕ) → MayLink f → MayLink (led_to (find_led p f step reply))
led_may p f step reply may = led_keeps (λ linking. linking ≡ Never → ⊥) p f step reply (λ e. cc) may

led_free : (p : Places) (f : Finding) (step : FindStep) (reply : ℕ) → IsUnbounded f → IsUnbounded (led_to (find_led p f step reply))
led_free p f step reply free = led_keeps (λ linking. (bound : ℕ) → linking ≡ Within bound → ⊥) p f step reply (λ bound e. cc) free

-- each actor whose last search is for an update may link there
abbrev pub LinksFor : Finding → Purpose → Type 0
LinksFor f Read = ⊤
LinksFor f Update = MayLink f × IsUnbounded f
LinksFor f (UpdateWithin bound) = MayLink f

abbrev pub IsFor : IndexActor → Type 0
IsFor x = LinksFor x.finding x.purpose

abbrev pub AreFor : List IndexActor → Type 0
AreFor actors = (actor : ℕ) (x : IndexActor) → slice_get actors actor ≡ Some x → IsFor x

led_for : (p : Places) (f : Finding) (reply : ℕ) (purpose : Purpose) → LinksFor f purpose → LinksFor (find_next p f reply) purpose
led_for p f reply Read its = tt
led_for p f reply Update its = (led_may p f f.step reply its.0, led_free p f f.step reply its.1)
led_for p f reply (UpdateWithin bound) its = led_may p f f.step reply its

moved_for : (p : Places) (words : List ℕ) (x : IndexActor) (work : SlotWork) → IsFor x → IsFor (actor_after p words x work)
moved_for p words x Seeks its = led_for p x.finding (reply_to words (find_ask x.finding)) x.purpose its
moved_for p words x (Holds place word) its = its
moved_for p words x (Enters step) its = its

move_for : (n : IndexNow) (actor : ℕ) (found : Option IndexActor) → slice_get n.actors actor ≡ found → AreFor n.actors → AreFor (moved n actor found).actors
move_for n actor None got all = all
move_for n actor (Some x) got all = each_set IsFor n.actors actor (actor_after n.places n.words x x.work) (moved_for n.places n.words x x.work (all actor x got)) all

begin_for : (n : IndexNow) (actor : ℕ) (home : Home) (purpose : Purpose) (found : Option IndexActor) → AreFor n.actors → AreFor (find_begun n actor home purpose found).actors
begin_for n actor home purpose None all = all
begin_for n actor home purpose (Some x) all = tested (may_find n.places home x)
  where
    its : (purpose : Purpose) → IsFor (record x { finding = first_finding n.places home purpose x.spare; work = Seeks; purpose = purpose })
    its Read = tt
    its Update = ((λ never. cc), λ bound e. cc)
    its (UpdateWithin bound) = λ never. cc

    tested : (b : Bool) → AreFor (if b then record n { actors = slice_set n.actors actor (record x { finding = first_finding n.places home purpose x.spare; work = Seeks; purpose = purpose }) } else n).actors
    tested true = each_set IsFor n.actors actor (record x { finding = first_finding n.places home purpose x.spare; work = Seeks; purpose = purpose }) (its purpose) all
    tested false = all

publish_for : (n : IndexNow) (actor addr : ℕ) (found : Option IndexActor) → slice_get n.actors actor ≡ found → AreFor n.actors → AreFor (publish_begun n actor addr found).actors
publish_for n actor addr None got all = all
publish_for n actor addr (Some x) got all = each_set IsFor n.actors actor (record x { work = work_begun x.finding addr x.work }) (all actor x got) all

event_for : (w : IndexWorld) (event : IndexEvent) → AreFor w.now.actors → AreFor (index_happens w event).now.actors
unfolding index_happens
event_for w (BeginsFind actor home purpose) all = begin_for w.now actor home purpose (slice_get w.now.actors actor) all
event_for w (BeginsPublish actor addr) all = publish_for w.now actor addr (slice_get w.now.actors actor) refl all
event_for w (Moves actor) all = move_for w.now actor (slice_get w.now.actors actor) refl all
event_for w (Changes place word) all = tested (is_barred w.now.places w.now.words place word)
  where
    tested : (b : Bool) → AreFor (if b then w.now else record w.now { words = slice_set w.now.words place word }).actors
    tested true = all
    tested false = all

pub run_for : (opening : IndexWorld) (events : List IndexEvent) → AreFor opening.now.actors → AreFor (index_run opening events).now.actors
unfolding index_run
run_for opening [] all = all
run_for opening (event ∷ before) all = event_for (index_run opening before) event (run_for opening before all)

rested_for : (count actor : ℕ) (x : IndexActor) → slice_get (replicate count rested_actor) actor ≡ Some x → IsFor x
rested_for zero actor x got = cc
rested_for (suc count) zero x got = let same : rested_actor ≡ x = cc in subst IsFor same tt
rested_for (suc count) (suc actor) x got = rested_for count actor x got

pub opening_for : (p : Places) (words : List ℕ) (lists : ℕ → List ℕ) (actors : ℕ) → AreFor (index_opening p words lists actors).now.actors
opening_for p words lists actors = rested_for actors

pub sound_purposes : (w : IndexWorld) → IsSound w → AreFor w.now.actors → AnswersPurpose w
sound_purposes w sound all actor x answer got seeks e = its x.purpose refl (all actor x got)
  where
    reply : ℕ
    reply = reply_to w.now.words (find_ask x.finding)

    no_miss : MayLink x.finding → IsNoMiss answer.found
    no_miss may = led_so IsNoMiss _ answer (update_led w.now.places x.finding x.finding.step reply may) e

    both : (found : Found) → IsNoMiss found → IsNotKept found → IsFoundFor Update found
    both (Slot place word) miss kept = tt
    both NoSlot miss kept = miss
    both Full miss kept = tt
    both Kept miss kept = kept
    both Contended miss kept = tt

    bounded : (bound : ℕ) (found : Found) → IsNoMiss found → IsFoundFor (UpdateWithin bound) found
    bounded bound (Slot place word) miss = tt
    bounded bound NoSlot miss = miss
    bounded bound Full miss = tt
    bounded bound Kept miss = tt
    bounded bound Contended miss = tt

    its : (purpose : Purpose) → x.purpose ≡ purpose → LinksFor x.finding purpose → IsFoundFor purpose answer.found
    its Read same links = led_so (IsFoundFor Read) _ answer (read_led w.now.places x.finding x.finding.step reply refl ((sound.begun actor x got).its_reading same)) e
    its Update same links = both answer.found (no_miss links.0) (led_so IsNotKept _ answer (unbounded_led w.now.places x.finding x.finding.step reply links.1) e)
    its (UpdateWithin bound) same links = bounded bound answer.found (no_miss links)

-- `Full` comes at one step alone
abbrev FullAt : IndexWorld → ℕ → IndexActor → Found → Type 0
FullAt w actor x found = found ≡ Full → IsFullThen w actor x

full_here : (w : IndexWorld) (actor : ℕ) (x : IndexActor) (word : ℕ) → slice_get w.now.actors actor ≡ Some x → IsSound w → SeekKnows w.now.places (bucket_words w.now.places w.now.words) w.lists x.finding (LoadsTaken word)
    → x.finding.spare ≡ 0 → (nat_lt (taken_of w.now.words) w.now.places.overflow ≡ false) → IsFullThen w actor x
full_here w actor x word got sound knows no_spare all = record {
  all_taken = let few = sound.its_index.few_taken in let high : w.now.places.overflow ≤ taken_of w.now.words = grind (arith, nat_tests, all) in omega (arith, few, high);
  none_spare = ap spare_in got ∙ no_spare;
  bucket = knows.0.bucket;
  its_bucket = passed_among w.now.places.buckets (bucket_words w.now.places w.now.words) x.finding.home.tag x.finding.home.bucket (w.lists x.finding.home.bucket) knows.0.bucket 7 knows.0.passed;
  full_of_others = passed_row w.now.places.buckets (bucket_words w.now.places w.now.words) x.finding.home.tag x.finding.home.bucket (w.lists x.finding.home.bucket) knows.0.bucket 7 knows.0.passed;
}

full_so : (w : IndexWorld) (actor : ℕ) (x : IndexActor) (step : FindStep) → slice_get w.now.actors actor ≡ Some x → IsSound w → SeekKnows w.now.places (bucket_words w.now.places w.now.words) w.lists x.finding step
    → LedSo (FullAt w actor x) (find_led w.now.places x.finding step (reply_to w.now.words (find_step_ask x.finding step)))
unfolding find_step_ask find_led
full_so w actor x AtRest got sound knows = λ e. cc
full_so w actor x (LoadsSlot slot) got sound knows = slot_so (FullAt w actor x) x.finding slot (word_at w.now.words (x.finding.base + slot)) (slot_word (word_at w.now.words (x.finding.base + slot))) (λ place it e. cc) (λ e. cc)
full_so w actor x LoadsLink got sound knows = link_so (FullAt w actor x) w.now.places x.finding (word_at w.now.words (x.finding.base + 7)) (λ never e. cc) (λ e. cc)
full_so w actor x (LoadsTaken word) got sound knows = kept (is_kept x.finding.linking (taken_of w.now.words))
  where
    takes : (b : Bool) → nat_lt (taken_of w.now.words) w.now.places.overflow ≡ b → x.finding.spare ≡ 0
        → LedSo (FullAt w actor x) (if b then On (record x.finding { step = TakesBucket word (taken_of w.now.words) }) else Ends x.finding Full)
    takes true e no_spare = λ h. cc
    takes false e no_spare = λ h. full_here w actor x word got sound knows no_spare e

    spares : (b : Bool) → (x.finding.spare == 0) ≡ b → LedSo (FullAt w actor x) (if b then takes_led w.now.places x.finding word (taken_of w.now.words) else On (record x.finding { step = LinksBucket word }))
    spares true e = takes (nat_lt (taken_of w.now.words) w.now.places.overflow) refl (eqb-true x.finding.spare 0 e)
    spares false e = λ h. cc

    kept : (b : Bool)
        → LedSo (FullAt w actor x) (if b then Ends x.finding Kept else if x.finding.spare == 0 then takes_led w.now.places x.finding word (taken_of w.now.words) else On (record x.finding { step = LinksBucket word }))
    kept true = λ h. cc
    kept false = spares (x.finding.spare == 0) refl
full_so w actor x (TakesBucket word taken) got sound knows = tested (taken_of w.now.words == taken)
  where
    tested : (b : Bool) → LedSo (FullAt w actor x) (if b then On (record x.finding { spare = taken + 1; step = LinksBucket word }) else Ends x.finding Contended)
    tested true = λ e. cc
    tested false = λ e. cc
full_so w actor x (LinksBucket word) got sound knows = tested (word_at w.now.words (x.finding.base + 7) == word)
  where
    tested : (b : Bool) → LedSo (FullAt w actor x) (if b then entered w.now.places (record x.finding { linking = Made; spare = 0 }) x.finding.spare else Ends x.finding Contended)
    tested true = enters_so (FullAt w actor x) w.now.places (record x.finding { linking = Made; spare = 0 }) x.finding.spare (λ e. cc)
    tested false = λ e. cc

pub sound_full : (w : IndexWorld) → IsSound w → FullIsSo w
sound_full w sound actor x answer got seeks e its =
    let row : SeekKnows w.now.places (bucket_words w.now.places w.now.words) w.lists x.finding x.finding.step = subst (WorkKnows w.now.places (bucket_words w.now.places w.now.words) w.lists x.finding) seeks (sound.rows actor x got) in
    led_so (FullAt w actor x) _ answer (full_so w actor x x.finding.step got sound row) e its
