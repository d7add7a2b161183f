-- What stands of a record as far as its append has stored it, and how a reply to the append leaves it so.
use Rattle.std.proofs.Common.{◌≡◌, ℕ, ◌<◌, ◌∙◌, arith, refl, sym, ap, subst, Bool, true, false}
use Rattle.std.proofs.lemmas.Bool.Decides.{nat_tests}
use Rattle.std.specs.Prelude.{◌==◌, ◌&&◌, nat_lt, ◌^◌, if◌then◌else◌, ⊤}
use Rattle.fkv_base.specs.declared.numbers.Addr.{Addr}
use Rattle.fkv_words.specs.Layout.{header_word}
use Rattle.fkv_plane.specs.declared.asks.Ask.{Ask}
use Rattle.fkv_plane.specs.declared.asks.Ask.TheVariants.{Done}
use Rattle.fkv_plane.specs.declared.places.Places.{Places}
use Rattle.fkv_plane.specs.declared.places.RecordWord.{RecordWord}
use Rattle.fkv_plane.specs.declared.places.RecordWord.TheVariants as rec
use Rattle.law_world.specs.Below.fkv_log.TheFilling.{Filling}
use Rattle.law_world.specs.Below.fkv_log.TheFilling.TheVariants as fill
use Rattle.law_world.specs.Below.fkv_log.TheInvalidating.{Invalidating}
use Rattle.law_world.specs.Below.fkv_log.TheInvalidating.TheVariants as invalidate
use Rattle.law_world.specs.Below.fkv_log.RecordWords.{RecordWords}
use Rattle.law_world.specs.Below.fkv_log.ReserveAnswer.{ReserveAnswer}
use Rattle.law_world.specs.Below.fkv_log.ReserveAnswer.TheVariants as reserve
use Rattle.law_world.specs.Below.fkv_log.Reserving.{reserve_next, reserve_next_ask}
use Rattle.law_world.specs.Below.fkv_log.Filling.{fill_begun, fill_ask, fill_next}
use Rattle.law_world.specs.Below.fkv_log.Invalidating.{invalidate_ask, invalidate_next, invalidated}
use Rattle.fkv_index.specs.declared.publishing.PublishAnswer.TheVariants as publish
use Rattle.fkv_index.specs.declared.publishing.Publishing.{Publishing}
use Rattle.fkv_index.specs.declared.publishing.Publishing.TheVariants.{AtRest, SwapsEntry}
use Rattle.fkv_index.specs.Publishing.{publish_next, publish_next_ask}
use Rattle.law_world.specs.Below.fkv_ops.AppendAnswer.TheVariants as append
use Rattle.law_world.specs.Below.fkv_ops.TheAppending.{Appending}
use Rattle.law_world.specs.Below.fkv_ops.TheAppending.TheVariants as appending
use Rattle.law_world.specs.Below.fkv_ops.Appending.{AppendState, append_ended, reserve_ledto, fill_ledto, publish_ledto, invalidate_ledto, appending_next}

-- by address, the words that stand for the record there
abbrev pub Standing : Type 0
Standing = ℕ → RecordWord → ℕ

-- value, key and header, as far as they were stored
abbrev pub FillStands : Standing → Addr → RecordWords → Filling → Type 0
FillStands stands addr its_words fill.AtRest = ⊥
FillStands stands addr its_words (fill.StoresValue at its) = (at ≡ addr) × (its ≡ its_words)
FillStands stands addr its_words (fill.StoresKey at its) = (at ≡ addr) × (its ≡ its_words) × (stands addr.0 rec.Value ≡ its_words.value)
FillStands stands addr its_words (fill.StoresHeader at its) = (at ≡ addr) × (its ≡ its_words) × (stands addr.0 rec.Value ≡ its_words.value) × (stands addr.0 rec.Key ≡ its_words.key.0)

pub record IsFilled (words : RecordWord → ℕ) (its : RecordWords) : Type 0 where
  pub header : words rec.Header ≡ header_word its.header
  pub key : words rec.Key ≡ its.key.0
  pub value : words rec.Value ≡ its.value

-- they are those of a valid record, which leads below this address
pub record Falls (its : RecordWords) (addr : ℕ) : Type 0 where
  pub valid : its.header.invalid ≡ false
  pub below : its.header.previous.0 < addr

-- the record that is given up is the one of these words, which leads below its address
abbrev pub GivesUp : RecordWords → Invalidating → Type 0
GivesUp its invalidate.AtRest = ⊤
GivesUp its (invalidate.StoresHeader addr header) = (header ≡ its.header) × (its.header.previous.0 < addr.0)

abbrev pub AppendStands : Standing → AppendState → Appending → Type 0
AppendStands stands a appending.Reserves = a.its_words.header.invalid ≡ false
AppendStands stands a (appending.Fills addr) = FillStands stands addr a.its_words a.filling × Falls a.its_words addr.0
AppendStands stands a (appending.Publishes addr) = IsFilled (stands addr.0) a.its_words × Falls a.its_words addr.0
AppendStands stands a appending.Invalidates = GivesUp a.its_words a.invalidating
AppendStands stands a step = ⊤

-- ---- what a store of one of the words leaves standing
abbrev pub FillWrites : Standing → Standing → Filling → Type 0
FillWrites stands after fill.AtRest = ⊤
FillWrites stands after (fill.StoresValue at its) = after at.0 rec.Value ≡ its.value
FillWrites stands after (fill.StoresKey at its) = (after at.0 rec.Key ≡ its.key.0) × (after at.0 rec.Value ≡ stands at.0 rec.Value)
FillWrites stands after (fill.StoresHeader at its) = (after at.0 rec.Header ≡ header_word its.header) × (after at.0 rec.Key ≡ stands at.0 rec.Key) × (after at.0 rec.Value ≡ stands at.0 rec.Value)

abbrev pub InvalidateWrites : Standing → Invalidating → Type 0
InvalidateWrites after invalidate.AtRest = ⊤
InvalidateWrites after (invalidate.StoresHeader at header) = after at.0 rec.Header ≡ header_word (invalidated header)

abbrev pub AppendWrites : Standing → Standing → AppendState → Appending → Type 0
AppendWrites stands after a (appending.Fills addr) = FillWrites stands after a.filling
AppendWrites stands after a appending.Invalidates = InvalidateWrites after a.invalidating
AppendWrites stands after a step = ⊤

-- ---- each reply to an append
abbrev StandsNow : Standing → AppendState → Type 0
StandsNow stands a = AppendStands stands a a.step

still : (stands : Standing) (a : AppendState) (step : Appending) → a.step ≡ step → AppendStands stands a step → StandsNow stands a
still stands a step at its = subst (AppendStands stands a) (sym at) its

reserved_so : (after : Standing) (a : AppendState) (ask : Ask ReserveAnswer) → a.step ≡ appending.Reserves → a.its_words.header.invalid ≡ false → StandsNow after (reserve_ledto a ask)
unfolding reserve_ledto
reserved_so after a (Done (reserve.Reserved addr)) at valid = by_tests (nat_lt a.its_words.header.previous.0 addr.0) (nat_lt addr.0 (2 ^ 48)) refl
  where
    by_tests : (c d : Bool) → nat_lt a.its_words.header.previous.0 addr.0 ≡ c → StandsNow after (if c && d then record a { filling = fill_begun addr a.its_words; step = appending.Fills addr } else append_ended a append.Contended)
    by_tests true true low = ((refl, refl), record { valid = valid; below = grind (arith, nat_tests, low) })
    by_tests true false low = tt
    by_tests false d low = tt
reserved_so after a (Done reserve.Full) at valid = tt
reserved_so after a (Done reserve.NoRoom) at valid = tt
reserved_so after a (Done reserve.Contended) at valid = tt
reserved_so after a ask at valid = still after a appending.Reserves at valid

filled_so : (stands after : Standing) (p : Places) (a : AppendState) (addr : Addr) (filling : Filling) → a.step ≡ appending.Fills addr → FillStands stands addr a.its_words filling → Falls a.its_words addr.0 → FillWrites stands after filling
    → StandsNow after (fill_ledto (record a { filling = fill_next filling }) addr (fill_ask p (fill_next filling)))
unfolding fill_ledto fill_ask fill_next
filled_so stands after p a addr fill.AtRest at so falls writes = absurd so
filled_so stands after p a addr (fill.StoresValue where_to its) at so falls writes =
    still after (record a { filling = fill.StoresKey where_to its }) (appending.Fills addr) at
    ((so.0, so.1, subst (λ (x : Addr). after x.0 rec.Value ≡ a.its_words.value) so.0 (writes ∙ ap (λ (x : RecordWords). x.value) so.1)), falls)
filled_so stands after p a addr (fill.StoresKey where_to its) at so falls writes =
    still after (record a { filling = fill.StoresHeader where_to its }) (appending.Fills addr) at (
      (
        so.0,
        so.1,
        subst (λ (x : Addr). after x.0 rec.Value ≡ stands x.0 rec.Value) so.0 writes.1 ∙ so.2,
        subst (λ (x : Addr). after x.0 rec.Key ≡ a.its_words.key.0) so.0 (writes.0 ∙ ap (λ (x : RecordWords). x.key.0) so.1),
      ),
      falls,
    )
filled_so stands after p a addr (fill.StoresHeader where_to its) at so falls writes = (
  record {
    header = subst (λ (x : Addr). after x.0 rec.Header ≡ header_word a.its_words.header) so.0 (writes.0 ∙ ap (λ (x : RecordWords). header_word x.header) so.1);
    key = subst (λ (x : Addr). after x.0 rec.Key ≡ stands x.0 rec.Key) so.0 writes.1 ∙ so.3;
    value = subst (λ (x : Addr). after x.0 rec.Value ≡ stands x.0 rec.Value) so.0 writes.2 ∙ so.2;
  },
  falls,
)

published_so : (after : Standing) (a : AppendState) (addr : Addr) (its : Publishing) (reply : ℕ) → Falls a.its_words addr.0 → StandsNow after (publish_ledto (record a { publishing = publish_next its reply }) addr (publish_next_ask its reply))
unfolding publish_ledto publish_next publish_next_ask
published_so after a addr AtRest reply falls = (refl, falls.below)
published_so after a addr (SwapsEntry place word entry) reply falls = by_test (reply == word)
  where
    by_test : (c : Bool) → StandsNow after (publish_ledto (record a { publishing = AtRest }) addr (Done (if c then publish.Won else publish.Lost)))
    by_test true = tt
    by_test false = (refl, falls.below)

invalidated_so : (after : Standing) (p : Places) (a : AppendState) (its : Invalidating) → StandsNow after (invalidate_ledto (record a { invalidating = invalidate_next its }) (invalidate_ask p (invalidate_next its)))
unfolding invalidate_ledto invalidate_ask invalidate_next
invalidated_so after p a invalidate.AtRest = tt
invalidated_so after p a (invalidate.StoresHeader addr header) = tt

pub append_so : (stands after : Standing) (p : Places) (room : ℕ) (a : AppendState) (step : Appending) (reply : ℕ) → a.step ≡ step → AppendStands stands a step → AppendWrites stands after a step
    → AppendStands after (appending_next p room a step reply) (appending_next p room a step reply).step
unfolding appending_next
append_so stands after p room a (appending.Ended told) reply at so writes = still after a (appending.Ended told) at tt
append_so stands after p room a appending.Reserves reply at so writes = reserved_so after (record a { reserving = reserve_next a.reserving reply }) (reserve_next_ask room a.reserving reply) at so
append_so stands after p room a (appending.Fills addr) reply at so writes = filled_so stands after p a addr a.filling at so.0 so.1 writes
append_so stands after p room a (appending.Publishes addr) reply at so writes = published_so after a addr a.publishing reply so.1
append_so stands after p room a appending.Invalidates reply at so writes = invalidated_so after p a a.invalidating
