-- Each reply leads a walk on to a state in which what it has loaded fits, and what it comes to on the device is there.
use Rattle.std.proofs.Common.{◌≡◌, ℕ, ◌-◌, ◌<◌, ◌≤◌, refl, sym, subst, arith, Bool, true, false}
use Rattle.std.proofs.lemmas.Bool.Decides.{nat_tests}
use Rattle.std.specs.Prelude.{⊤, ◌==◌, nat_lt, if◌then◌else◌}
use Rattle.fkv_base.specs.declared.numbers.Addr.{Addr}
use Rattle.fkv_base.specs.declared.numbers.Key.{Key}
use Rattle.fkv_index.specs.Finding.{find_ask, find_next, find_next_ask}
use Rattle.fkv_index.specs.Slots.{entry_addr}
use Rattle.fkv_index.specs.declared.finding.FindAnswer.{FindAnswer}
use Rattle.fkv_index.specs.declared.finding.Found.{Found}
use Rattle.fkv_index.specs.declared.finding.Found.TheVariants as found
use Rattle.law_refine.specs.Below.fkv_log.Loading.{load_ask, load_next, load_next_ask, load_on}
use Rattle.law_refine.specs.Below.fkv_log.TheLoading.{Loading}
use Rattle.law_refine.specs.Below.fkv_log.TheLoading.TheVariants as load
use Rattle.fkv_map.specs.Fits.{NumberFits}
use Rattle.law_refine.specs.Below.fkv_ops.HeaderWords.{header_said}
use Rattle.law_refine.specs.Below.fkv_ops.Walking.{WalkState, walking_ask, walk_ask, walk_ended, reached, slot_found, find_ledto, first_met, record_met, load_ledto, value_ledto, walking_next, walk_next, walking_on, walk_on}
use Rattle.law_refine.specs.Below.fkv_ops.HeaderSaid.{HeaderSaid}
use Rattle.law_refine.specs.Below.fkv_ops.HeaderSaid.TheVariants.{Says, Spoiled}
use Rattle.law_refine.specs.Below.fkv_ops.WalkAnswer.{WalkAnswer}
use Rattle.law_refine.specs.Below.fkv_ops.WalkAnswer.TheVariants as answer
use Rattle.law_refine.specs.Below.fkv_ops.TheWalking.{Walking}
use Rattle.law_refine.specs.Below.fkv_ops.TheWalking.TheVariants.{Ended, Finds, Meets, HasFound, LoadsValue}
use Rattle.fkv_plane.specs.declared.asks.Ask.{Ask}
use Rattle.fkv_plane.specs.declared.asks.Ask.TheVariants.{Done}
use Rattle.fkv_plane.specs.declared.places.Places.{Places}
use Rattle.law_opening.proofs.OfChanges.OfFits.Rows.{LoadsAt, WalkAnswerOk, WalkOk, WalkRow}
use Rattle.law_opening.proofs.OfChanges.Rows.{IsAt, IsPast, LeadsSaid, LoadSo, WalkKnown, WalkSo}
use Rattle.law_opening.proofs.OfChanges.Walks.{FindSo, FoundSo, WalkTold, high, led_there, passed_answer, the_answer}
use Rattle.law_opening.specs.Changes.Linked.{IsLed}
use Rattle.law_log.specs.Ghosts.{Log}
use Rattle.law_refine.specs.Events.Published.{IsPublished}

-- ---- what a reply tells
-- the value of a published record fits
abbrev pub ValueTold : Log → ℕ → Loading → ℕ → Type 0
ValueTold log head (load.LoadsValue its header key) reply = IsAt log head its.0 → NumberFits reply
ValueTold log head loading reply = ⊤

abbrev pub WalkValueTold : Log → WalkState → Walking → ℕ → Type 0
WalkValueTold log w LoadsValue reply = ValueTold log w.head.0 w.loading reply
WalkValueTold log w step reply = ⊤

-- ---- where it leads
low : (a b c : ℕ) → nat_lt a b ≡ true → b ≤ c → a < c
low a b c e most = let less : a < b = grind (arith, nat_tests, e) in omega (arith, less, most)

module _ (log : Log) (flushed : ℕ) (p : Places) where
  reached_ok : (w : WalkState) (addr : ℕ) → w.head.0 ≤ flushed → IsLed log addr → WalkOk log flushed (reached p w addr)
  reached_ok w addr below led = by_zero (addr == 0) refl
    where
      by_ring : (b : Bool) → IsAt log w.head.0 addr
          → WalkOk log flushed (if b then record w { loading = load.LoadsHeader (record { 0 = addr }); step = Meets (record { 0 = addr }) } else walk_ended w answer.Contended)
      by_ring true at = at
      by_ring false at = tt

      by_head : (b : Bool) → nat_lt addr w.head.0 ≡ b → IsPublished (log.cells addr)
          → WalkOk log flushed (if b then walk_ended w (answer.OnDisk (record { 0 = addr })) else if nat_lt (addr - w.head.0) p.ring then record w { loading = load.LoadsHeader (record { 0 = addr }); step = Meets (record { 0 = addr }) } else walk_ended w answer.Contended)
      by_head true e there = (there, low addr w.head.0 flushed e below)
      by_head false e there = by_ring (nat_lt (addr - w.head.0) p.ring) (there, high addr w.head.0 e)

      by_zero : (b : Bool) → (addr == 0) ≡ b
          → WalkOk log flushed (if b then walk_ended w answer.Nowhere else if nat_lt addr w.head.0 then walk_ended w (answer.OnDisk (record { 0 = addr })) else if nat_lt (addr - w.head.0) p.ring then record w { loading = load.LoadsHeader (record { 0 = addr }); step = Meets (record { 0 = addr }) } else walk_ended w answer.Contended)
      by_zero true e = tt
      by_zero false e = by_head (nat_lt addr w.head.0) refl (led_there log addr e led)

  slot_ok : (w : WalkState) (its : Found) → w.head.0 ≤ flushed → FoundSo log its → WalkOk log flushed (slot_found p w its)
  slot_ok w (found.Slot place word) below so = reached_ok (record w { place = place; entry = word }) (entry_addr word) below so
  slot_ok w found.NoSlot below so = tt
  slot_ok w found.Full below so = tt
  slot_ok w found.Kept below so = tt
  slot_ok w found.Contended below so = tt

  find_ok : (w : WalkState) (ask : Ask FindAnswer) → w.step ≡ Finds → w.head.0 ≤ flushed → FindSo log ask → WalkOk log flushed (find_ledto p w ask)
  unfolding find_ledto
  find_ok w (Done its) at below so = slot_ok (record w { spare = its.spare }) its.found below so
  find_ok w ask at below so = subst (WalkRow log flushed w.head.0 w.loading) (sym at) tt

  met_ok : (w : WalkState) (addr : Addr) (key : Key) (said : HeaderSaid) → w.head.0 ≤ flushed → LoadsAt log w.head.0 w.loading → LeadsSaid log said → WalkOk log flushed (record_met p w addr key said)
  met_ok w addr key Spoiled below at leads = tt
  met_ok w addr key (Says previous version) below at leads = by_previous (nat_lt previous.0 addr.0)
    where
      by_key : (b : Bool) → WalkOk log flushed (if b then record w { first = first_met w.first version; step = HasFound addr version } else reached p (record w { first = first_met w.first version }) previous.0)
      by_key true = at
      by_key false = reached_ok (record w { first = first_met w.first version }) previous.0 below leads

      by_previous : (b : Bool)
          → WalkOk log flushed (if b then (if key.0 == w.key.0 then record w { first = first_met w.first version; step = HasFound addr version } else reached p (record w { first = first_met w.first version }) previous.0) else walk_ended w answer.Contended)
      by_previous true = by_key (key.0 == w.key.0)
      by_previous false = tt

  load_ok : (w : WalkState) (addr : Addr) (loading : Loading) (reply : ℕ) → w.step ≡ Meets addr → w.head.0 ≤ flushed → LoadsAt log w.head.0 loading → LoadSo log addr loading
      → WalkOk log flushed (load_ledto p (record w { loading = load_next loading reply }) addr (load_next_ask p loading reply))
  unfolding load_ledto load_ask load_next load_next_ask
  load_ok w addr (load.LoadsHeader its) reply at below ok so = subst (WalkRow log flushed w.head.0 (load.LoadsKey its reply)) (sym at) ok
  load_ok w addr (load.LoadsKey its header) reply at below ok so = met_ok (record w { loading = load.HasKey its header reply }) addr (record { 0 = reply }) (header_said header) below ok so
  load_ok w addr (load.HasKey its header key) reply at below ok so = met_ok (record w { loading = load.HasKey its header key }) addr (record { 0 = key }) (header_said header) below ok so
  load_ok w addr load.AtRest reply at below ok so = tt
  load_ok w addr (load.LoadsValue its header key) reply at below ok so = tt

  value_ok : (w : WalkState) (loading : Loading) (reply : ℕ) → w.step ≡ LoadsValue → LoadsAt log w.head.0 loading → ValueTold log w.head.0 loading reply
      → WalkOk log flushed (value_ledto (record w { loading = load_next loading reply }) (load_next_ask p loading reply))
  unfolding value_ledto load_ask load_next load_next_ask
  value_ok w (load.LoadsHeader its) reply at ok told = subst (WalkRow log flushed w.head.0 (load.LoadsKey its reply)) (sym at) ok
  value_ok w (load.LoadsKey its header) reply at ok told = tt
  value_ok w (load.HasKey its header key) reply at ok told = tt
  value_ok w load.AtRest reply at ok told = tt
  value_ok w (load.LoadsValue its header key) reply at ok told = told ok

  row_ok : (w : WalkState) (step : Walking) (reply : ℕ) → w.step ≡ step → w.head.0 ≤ flushed → WalkSo log w.head.0 w.loading step → WalkTold log p w step reply → WalkRow log flushed w.head.0 w.loading step → WalkValueTold log w step reply
      → WalkOk log flushed (walking_next p w step reply)
  unfolding walking_next
  row_ok w (Ended its) reply at below so told ok value = subst (WalkRow log flushed w.head.0 w.loading) (sym at) ok
  row_ok w Finds reply at below so told ok value = find_ok (record w { finding = find_next p w.finding reply }) (find_next_ask p w.finding reply) at below told
  row_ok w (Meets addr) reply at below so told ok value = load_ok w addr w.loading reply at below ok so.1
  row_ok w (HasFound addr version) reply at below so told ok value = subst (WalkRow log flushed w.head.0 w.loading) (sym at) ok
  row_ok w LoadsValue reply at below so told ok value = value_ok w w.loading reply at ok value

  pub walk_ok : (w : WalkState) (reply : ℕ) → w.head.0 ≤ flushed → WalkKnown log w → WalkTold log p w w.step reply → WalkOk log flushed w → WalkValueTold log w w.step reply → WalkOk log flushed (walk_next p w reply)
  walk_ok w reply below known told ok value = row_ok w w.step reply refl below known.1 told ok value

  -- ---- where it is past the record that it has found
  past_row : (w : WalkState) (step : Walking) (reply : ℕ) → w.step ≡ step → IsPast step → WalkRow log flushed w.head.0 w.loading step → WalkValueTold log w step reply → WalkOk log flushed (walking_next p w step reply)
  unfolding walking_next
  past_row w (Ended its) reply at past ok value = subst (WalkRow log flushed w.head.0 w.loading) (sym at) ok
  past_row w LoadsValue reply at past ok value = value_ok w w.loading reply at ok value
  past_row w step reply at past ok value = absurd past

  pub past_ok : (w : WalkState) (reply : ℕ) → IsPast w.step → WalkOk log flushed w → WalkValueTold log w w.step reply → WalkOk log flushed (walk_next p w reply)
  past_ok w reply past ok value = past_row w w.step reply refl past ok value

  load_on_ok : (head : ℕ) (loading : Loading) → LoadsAt log head loading → LoadsAt log head (load_on loading)
  unfolding load_on
  load_on_ok head (load.HasKey its header key) ok = ok
  load_on_ok head (load.LoadsHeader its) ok = ok
  load_on_ok head (load.LoadsKey its header) ok = ok
  load_on_ok head (load.LoadsValue its header key) ok = ok
  load_on_ok head load.AtRest ok = tt

  on_row : (w : WalkState) (step : Walking) → w.step ≡ step → WalkRow log flushed w.head.0 w.loading step → WalkOk log flushed (walking_on w step)
  unfolding walking_on
  on_row w (HasFound addr version) at ok = load_on_ok w.head.0 w.loading ok
  on_row w (Ended its) at ok = subst (WalkRow log flushed w.head.0 w.loading) (sym at) ok
  on_row w Finds at ok = subst (WalkRow log flushed w.head.0 w.loading) (sym at) tt
  on_row w (Meets addr) at ok = subst (WalkRow log flushed w.head.0 w.loading) (sym at) ok
  on_row w LoadsValue at ok = subst (WalkRow log flushed w.head.0 w.loading) (sym at) ok

  pub on_ok : (w : WalkState) → WalkOk log flushed w → WalkOk log flushed (walk_on w)
  on_ok w ok = on_row w w.step refl ok

  -- ---- its answer
  contended : (its : WalkAnswer) → its ≡ answer.Contended → WalkAnswerOk log flushed its
  contended its e = subst (WalkAnswerOk log flushed) (sym e) tt

  row_answers : (w : WalkState) (step : Walking) (its : WalkAnswer) → WalkRow log flushed w.head.0 w.loading step → walking_ask p w step ≡ Done its → WalkAnswerOk log flushed its
  unfolding walking_ask
  row_answers w (Ended it) its ok e = subst (WalkAnswerOk log flushed) (the_answer it its e) ok
  row_answers w Finds its ok e = contended its (passed_answer (find_ask w.finding) answer.Contended its e)
  row_answers w (Meets addr) its ok e = contended its (passed_answer (load_ask p w.loading) answer.Contended its e)
  row_answers w (HasFound addr version) its ok e = subst (WalkAnswerOk log flushed) (the_answer (answer.Found addr version) its e) tt
  row_answers w LoadsValue its ok e = contended its (passed_answer (load_ask p w.loading) answer.Contended its e)

  pub walk_answers : (w : WalkState) (its : WalkAnswer) → WalkOk log flushed w → walk_ask p w ≡ Done its → WalkAnswerOk log flushed its
  walk_answers w its ok e = row_answers w w.step its ok e
