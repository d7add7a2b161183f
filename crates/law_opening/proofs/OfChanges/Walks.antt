-- Each reply leads a walk on to a state in which it goes by what is published.
use Rattle.std.proofs.Common.{◌≡◌, inl, inr, ℕ, ◌-◌, ◌≤◌, refl, sym, subst, arith, Bool, true, false}
use Rattle.std.proofs.lemmas.Bool.Decides.{nat_tests}
use Rattle.std.specs.Prelude.{⊤, ◌==◌, nat_lt, if◌then◌else◌}
use Rattle.fkv_base.specs.declared.numbers.Addr.{Addr}
use Rattle.fkv_base.specs.declared.numbers.Key.{Key}
use Rattle.fkv_plane.specs.declared.asks.Ask.{Ask}
use Rattle.fkv_plane.specs.declared.asks.Ask.TheVariants.{Done}
use Rattle.fkv_plane.specs.declared.places.Places.{Places}
use Rattle.fkv_plane.specs.Passing.{passed}
use Rattle.law_refine.specs.Below.fkv_log.LoadAnswer.{LoadAnswer}
use Rattle.law_refine.specs.Below.fkv_log.LoadAnswer.TheVariants as load_answer
use Rattle.law_refine.specs.Below.fkv_log.TheLoading.{Loading}
use Rattle.law_refine.specs.Below.fkv_log.TheLoading.TheVariants as load
use Rattle.law_refine.specs.Below.fkv_log.Loading.{load_ask, load_next, load_next_ask}
use Rattle.fkv_index.specs.declared.finding.Found.{Found}
use Rattle.fkv_index.specs.declared.finding.Found.TheVariants as found
use Rattle.fkv_index.specs.declared.finding.FindAnswer.{FindAnswer}
use Rattle.fkv_index.specs.Slots.{entry_addr}
use Rattle.fkv_index.specs.Finding.{find_ask, find_next, find_next_ask}
use Rattle.law_refine.specs.Below.fkv_ops.HeaderWords.{header_said}
use Rattle.law_refine.specs.Below.fkv_ops.Walking.{WalkState, walking_ask, walk_ask, walk_ended, reached, slot_found, find_ledto, first_met, record_met, load_ledto, value_ledto, walking_next, walk_next, walking_on, walk_on}
use Rattle.law_refine.specs.Below.fkv_ops.HeaderSaid.{HeaderSaid}
use Rattle.law_refine.specs.Below.fkv_ops.HeaderSaid.TheVariants.{Says, Spoiled}
use Rattle.law_refine.specs.Below.fkv_ops.WalkAnswer.{WalkAnswer}
use Rattle.law_refine.specs.Below.fkv_ops.WalkAnswer.TheVariants as answer
use Rattle.law_refine.specs.Below.fkv_ops.TheWalking.{Walking}
use Rattle.law_refine.specs.Below.fkv_ops.TheWalking.TheVariants.{Ended, Finds, Meets, HasFound, LoadsValue}
use Rattle.law_log.specs.Ghosts.{Log}
use Rattle.law_refine.specs.Events.Published.{IsPublished}
use Rattle.law_opening.specs.Changes.Linked.{IsLed}
use Rattle.law_opening.proofs.OfChanges.Rows.{EndSo, IsAt, IsFound, IsPast, LeadsOn, LeadsSaid, LoadSo, WalkKnown, WalkSo}

-- ---- what a reply tells
-- the slot that a search finds leads to a published record, or to none
abbrev pub FoundSo : Log → Found → Type 0
FoundSo log (found.Slot place word) = IsLed log (entry_addr word)
FoundSo log its = ⊤

abbrev pub FindSo : Log → Ask FindAnswer → Type 0
FindSo log (Done its) = FoundSo log its.found
FindSo log ask = ⊤

-- and so does the header of a published record
abbrev pub LoadTold : Log → ℕ → Loading → ℕ → Type 0
LoadTold log head (load.LoadsHeader its) reply = IsAt log head its.0 → LeadsOn log reply
LoadTold log head loading reply = ⊤

abbrev pub WalkTold : Log → Places → WalkState → Walking → ℕ → Type 0
WalkTold log p w Finds reply = FindSo log (find_next_ask p w.finding reply)
WalkTold log p w (Meets addr) reply = LoadTold log w.head.0 w.loading reply
WalkTold log p w step reply = ⊤

-- ---- where it leads
pub led_there : (log : Log) (a : ℕ) → (a == 0) ≡ false → IsLed log a → IsPublished (log.cells a)
led_there log a other (inl none) = absurd (not_zero a none other)
  where
    not_zero : (n : ℕ) → n ≡ 0 → (n == 0) ≡ false → ⊥
    not_zero n none other = let zero : (0 == 0) ≡ false = subst (λ (x : ℕ). (x == 0) ≡ false) none other in cc
led_there log a other (inr there) = there

pub high : (a b : ℕ) → nat_lt a b ≡ false → b ≤ a
high a b e = grind (arith, nat_tests, e)

pub passed_answer : {A B : Type 0} (ask : Ask A) (a b : B) → passed ask a ≡ Done b → b ≡ a
unfolding passed
passed_answer (Done its) a b e = cc
passed_answer ask a b e = cc

pub the_answer : (a b : WalkAnswer) → Done a ≡ Done b → a ≡ b
the_answer a b e = cc

module _ (log : Log) (p : Places) where
  reached_so : (w : WalkState) (addr : ℕ) → IsLed log (entry_addr w.entry) → IsLed log addr → WalkKnown log (reached p w addr)
  reached_so w addr entry led = by_zero (addr == 0) refl
    where
      by_ring : (b : Bool) → IsAt log w.head.0 addr → WalkKnown log (if b then record w { loading = load.LoadsHeader (record { 0 = addr }); step = Meets (record { 0 = addr }) } else walk_ended w answer.Contended)
      by_ring true at = (entry, (at, refl))
      by_ring false at = (entry, tt)

      by_head : (b : Bool) → nat_lt addr w.head.0 ≡ b → IsPublished (log.cells addr)
          → WalkKnown log (if b then walk_ended w (answer.OnDisk (record { 0 = addr })) else if nat_lt (addr - w.head.0) p.ring then record w { loading = load.LoadsHeader (record { 0 = addr }); step = Meets (record { 0 = addr }) } else walk_ended w answer.Contended)
      by_head true e there = (entry, tt)
      by_head false e there = by_ring (nat_lt (addr - w.head.0) p.ring) (there, high addr w.head.0 e)

      by_zero : (b : Bool) → (addr == 0) ≡ b
          → WalkKnown log (if b then walk_ended w answer.Nowhere else if nat_lt addr w.head.0 then walk_ended w (answer.OnDisk (record { 0 = addr })) else if nat_lt (addr - w.head.0) p.ring then record w { loading = load.LoadsHeader (record { 0 = addr }); step = Meets (record { 0 = addr }) } else walk_ended w answer.Contended)
      by_zero true e = (entry, tt)
      by_zero false e = by_head (nat_lt addr w.head.0) refl (led_there log addr e led)

  slot_so : (w : WalkState) (its : Found) → IsLed log (entry_addr w.entry) → FoundSo log its → WalkKnown log (slot_found p w its)
  slot_so w (found.Slot place word) entry so = reached_so (record w { place = place; entry = word }) (entry_addr word) so so
  slot_so w found.NoSlot entry so = (entry, tt)
  slot_so w found.Full entry so = (entry, tt)
  slot_so w found.Kept entry so = (entry, tt)
  slot_so w found.Contended entry so = (entry, tt)

  find_so : (w : WalkState) (ask : Ask FindAnswer) → w.step ≡ Finds → IsLed log (entry_addr w.entry) → FindSo log ask → WalkKnown log (find_ledto p w ask)
  unfolding find_ledto
  find_so w (Done its) at entry so = slot_so (record w { spare = its.spare }) its.found entry so
  find_so w ask at entry so = (entry, subst (WalkSo log w.head.0 w.loading) (sym at) tt)

  met_so : (w : WalkState) (addr : Addr) (key : Key) (said : HeaderSaid) → IsLed log (entry_addr w.entry) → IsAt log w.head.0 addr.0 → LeadsSaid log said → WalkKnown log (record_met p w addr key said)
  met_so w addr key Spoiled entry at leads = (entry, tt)
  met_so w addr key (Says previous version) entry at leads = by_previous (nat_lt previous.0 addr.0)
    where
      by_key : (b : Bool) → WalkKnown log (if b then record w { first = first_met w.first version; step = HasFound addr version } else reached p (record w { first = first_met w.first version }) previous.0)
      by_key true = (entry, at)
      by_key false = reached_so (record w { first = first_met w.first version }) previous.0 entry leads

      by_previous : (b : Bool)
          → WalkKnown log (if b then (if key.0 == w.key.0 then record w { first = first_met w.first version; step = HasFound addr version } else reached p (record w { first = first_met w.first version }) previous.0) else walk_ended w answer.Contended)
      by_previous true = by_key (key.0 == w.key.0)
      by_previous false = (entry, tt)

  load_so : (w : WalkState) (addr : Addr) (loading : Loading) (reply : ℕ) → w.step ≡ Meets addr → IsLed log (entry_addr w.entry) → IsAt log w.head.0 addr.0 → LoadSo log addr loading → LoadTold log w.head.0 loading reply
      → WalkKnown log (load_ledto p (record w { loading = load_next loading reply }) addr (load_next_ask p loading reply))
  unfolding load_ledto load_ask load_next load_next_ask
  load_so w addr (load.LoadsHeader its) reply at entry here so told = (
    entry,
    subst (WalkSo log w.head.0 (load.LoadsKey its reply)) (sym at) (here, told (subst (λ (a : Addr). IsAt log w.head.0 a.0) (sym so) here)),
  )
  load_so w addr (load.LoadsKey its header) reply at entry here so told = met_so (record w { loading = load.HasKey its header reply }) addr (record { 0 = reply }) (header_said header) entry here so
  load_so w addr (load.HasKey its header key) reply at entry here so told = met_so (record w { loading = load.HasKey its header key }) addr (record { 0 = key }) (header_said header) entry here so
  load_so w addr load.AtRest reply at entry here so told = (entry, tt)
  load_so w addr (load.LoadsValue its header key) reply at entry here so told = (entry, tt)

  value_so : (w : WalkState) (ask : Ask LoadAnswer) → w.step ≡ LoadsValue → IsLed log (entry_addr w.entry) → WalkKnown log (value_ledto w ask)
  unfolding value_ledto
  value_so w (Done (load_answer.Whole header key value)) at entry = (entry, tt)
  value_so w (Done its) at entry = (entry, tt)
  value_so w ask at entry = (entry, subst (WalkSo log w.head.0 w.loading) (sym at) tt)

  row_so : (w : WalkState) (step : Walking) (reply : ℕ) → w.step ≡ step → IsLed log (entry_addr w.entry) → WalkSo log w.head.0 w.loading step → WalkTold log p w step reply → WalkKnown log (walking_next p w step reply)
  unfolding walking_next
  row_so w (Ended its) reply at entry so told = (entry, subst (WalkSo log w.head.0 w.loading) (sym at) so)
  row_so w Finds reply at entry so told = find_so (record w { finding = find_next p w.finding reply }) (find_next_ask p w.finding reply) at entry told
  row_so w (Meets addr) reply at entry so told = load_so w addr w.loading reply at entry so.0 so.1 told
  row_so w (HasFound addr version) reply at entry so told = (entry, subst (WalkSo log w.head.0 w.loading) (sym at) so)
  row_so w LoadsValue reply at entry so told = value_so (record w { loading = load_next w.loading reply }) (load_next_ask p w.loading reply) at entry

  pub walk_so : (w : WalkState) (reply : ℕ) → WalkKnown log w → WalkTold log p w w.step reply → WalkKnown log (walk_next p w reply)
  walk_so w reply known told = row_so w w.step reply refl known.0 known.1 told

  -- ---- where it has come to
  abbrev pub AnswerSo : WalkState → WalkAnswer → Type 0
  AnswerSo w (answer.Found addr version) = IsFound w.step × IsAt log w.head.0 addr.0
  AnswerSo w its = ⊤

  end_answers : (w : WalkState) (its : WalkAnswer) → EndSo its → AnswerSo w its
  end_answers w (answer.Found addr version) so = absurd so
  end_answers w its so = tt

  contended : (w : WalkState) (its : WalkAnswer) → its ≡ answer.Contended → AnswerSo w its
  contended w its e = subst (AnswerSo w) (sym e) tt

  row_answers : (w : WalkState) (step : Walking) (its : WalkAnswer) → w.step ≡ step → WalkSo log w.head.0 w.loading step → walking_ask p w step ≡ Done its → AnswerSo w its
  unfolding walking_ask
  row_answers w (Ended it) its at so e = subst (AnswerSo w) (the_answer it its e) (end_answers w it so)
  row_answers w Finds its at so e = contended w its (passed_answer (find_ask w.finding) answer.Contended its e)
  row_answers w (Meets addr) its at so e = contended w its (passed_answer (load_ask p w.loading) answer.Contended its e)
  row_answers w (HasFound addr version) its at so e = subst (AnswerSo w) (the_answer (answer.Found addr version) its e) (subst IsFound (sym at) tt, so)
  row_answers w LoadsValue its at so e = contended w its (passed_answer (load_ask p w.loading) answer.Contended its e)

  pub walk_answers : (w : WalkState) (its : WalkAnswer) → WalkSo log w.head.0 w.loading w.step → walk_ask p w ≡ Done its → AnswerSo w its
  walk_answers w its so e = row_answers w w.step its refl so e

-- ---- behind the record that it has found
-- the walk goes by the same entry and head
pub record KeepsWay (w after : WalkState) : Type 0 where
  pub entry : after.entry ≡ w.entry
  pub head : after.head ≡ w.head
  pub past : IsPast after.step

value_past : (w : WalkState) (ask : Ask LoadAnswer) → IsPast w.step → KeepsWay w (value_ledto w ask)
unfolding value_ledto
value_past w (Done (load_answer.Whole header key value)) past = record { entry = refl; head = refl; past = tt }
value_past w (Done its) past = record { entry = refl; head = refl; past = tt }
value_past w ask past = record { entry = refl; head = refl; past = past }

row_past : (p : Places) (w : WalkState) (step : Walking) (reply : ℕ) → w.step ≡ step → IsPast step → KeepsWay w (walking_next p w step reply)
unfolding walking_next
row_past p w (Ended its) reply at past = record { entry = refl; head = refl; past = subst IsPast (sym at) past }
row_past p w LoadsValue reply at past =
    let its = value_past (record w { loading = load_next w.loading reply }) (load_next_ask p w.loading reply) (subst IsPast (sym at) past) in
    record { entry = its.entry; head = its.head; past = its.past }
row_past p w step reply at past = absurd past

pub past_next : (p : Places) (w : WalkState) (reply : ℕ) → IsPast w.step → KeepsWay w (walk_next p w reply)
past_next p w reply past = row_past p w w.step reply refl past

on_past : (w : WalkState) (step : Walking) → IsFound step → KeepsWay w (walking_on w step)
unfolding walking_on
on_past w (HasFound addr version) found = record { entry = refl; head = refl; past = tt }
on_past w step found = absurd found

pub past_on : (w : WalkState) → IsFound w.step → KeepsWay w (walk_on w)
past_on w found = on_past w w.step found
