-- The lost ranges in hand lose just what the log doesn't have.
use Rattle.std.proofs.Common.{◌≡◌, ◌≢◌, ⊎_elim, ℕ, ◌+◌, ◌<◌, ◌≤◌, Bool, true, false, cond, List, [], ◌∷◌, ◌++◌, refl, sym, ap, subst, ◌∙◌, arith}
use Rattle.std.specs.Prelude.{count_by}
use Rattle.std.proofs.lemmas.Bool.{cases_lt}
use Rattle.std.proofs.lemmas.Bool.Decides.{nat_tests}
use Rattle.fkv_marks.proofs.Shown.{version_least}
use Rattle.law_paper.specs.Below.fkv_chains.Entries.{Counts}
use Rattle.law_paper.specs.Below.fkv_chains.Reached.{in_scan}
use Rattle.std.proofs.lemmas.List.Sums.{sum_by-append}
use Rattle.law_paper.specs.Below.fkv_opening.Lost.{Extends}
use Rattle.law_paper.specs.Below.fkv_opening.Opened.{IsStoreOf}
use Rattle.law_paper.specs.Below.fkv_opening.TheOpened.{Opened}
use Rattle.law_paper.specs.Below.fkv_pairs.Pairs.{CountsAtHome, log_of_store}
use Rattle.fkv_record.specs.declared.lost_ranges.LostRange.{LostRange}
use Rattle.fkv_record.specs.declared.records.Record.{Record}
use Rattle.law_paper.specs.Below.fkv_scan.Log.{Log, record_home}
use Rattle.law_paper.specs.Below.fkv_scan.Records.{Stands, version_of, losses, losses_of, is_in}
use Rattle.law_paper.specs.Below.fkv_scan.Scanned.{TellsNewer}
use Rattle.law_paper.specs.Paper.Old.{LosesTheRest}
use Rattle.law_opening.specs.Log.OpeningLog.{opening_log}
use Rattle.law_opening.proofs.OfLog.Counted.{chain_counts, counts_chain}
use Rattle.law_opening.proofs.OfLog.Reaching.{IsOfStore, one}

-- one range more loses what it has
more_losses : (ranges : List LostRange) (added : LostRange) (a version : ℕ) → losses (ranges ++ added ∷ []) a version ≡ losses ranges a version + count_by (is_in a version) (added ∷ [])
unfolding losses
more_losses ranges added a version = sum_by-append (λ (range : LostRange). cond (is_in a version range) 1 0) ranges (added ∷ [])

has_none : (added : LostRange) (a version : ℕ) → version ≢ added.version.0 → count_by (is_in a version) (added ∷ []) ≡ 0
has_none added a version other = let off : is_in a version added ≡ false = grind (arith, nat_tests) in rw off refl

has_it : (added : LostRange) (a version : ℕ) → a < added.to.0 → version ≡ added.version.0 → count_by (is_in a version) (added ∷ []) ≡ 1
has_it added a version low same = let here : is_in a version added ≡ true = grind (arith, nat_tests) in rw here refl

module _ (log : Log) (a : ℕ) (x : Record) (from : log.start ≤ a) (within : a < log.tail) (stands : Stands log a x) (valid : x.header.invalid ≡ false) where
  -- a record that isn't newer than the commit is lost by the ranges of its slot alone
  old_losses : (left_out : Bool) (ranges : List LostRange) → Extends log left_out ranges → version_of log x ≤ log.version → losses ranges a (version_of log x) ≡ losses_of log a x
  old_losses false ranges is old = ap (λ (rs : List LostRange). losses rs a (version_of log x)) is
  old_losses true ranges extends old =
      let version = extends.2 in
      let none = has_none extends.0 a (version_of log x) (λ same. omega (arith, same, version, old)) in
      let more = more_losses log.lost extends.0 a (version_of log x) in
      ap (λ (rs : List LostRange). losses rs a (version_of log x)) extends.3 ∙ omega (arith, more, none)

  -- and one that is newer is lost by the range in hand
  new_losses : (left_out : Bool) (ranges : List LostRange) → TellsNewer log log.tail left_out → Extends log left_out ranges → version_of log x ≡ log.version + 1 → losses ranges a (version_of log x) ≢ 0
  new_losses false ranges tells is newer none = tells a x from within (record { stands = stands; valid = valid; newer = newer })
  new_losses true ranges tells extends newer none =
      let to = extends.1 in
      let version = extends.2 in
      let one_more = has_it extends.0 a (version_of log x) (omega (arith, to, within)) (newer ∙ sym version) in
      let more = more_losses log.lost extends.0 a (version_of log x) in
      let all = ap (λ (rs : List LostRange). losses rs a (version_of log x)) extends.3 in
      omega (arith, all, more, one_more, none)

pub loses_the_rest : (image : List ℕ) (o : Opened) (store : IsStoreOf image o) → IsOfStore (log_of_store image o store) o.entries.items → LosesTheRest o.lost.items (log_of_store image o store) (opening_log image o)
loses_the_rest image o store its a x from within stands valid = (
  λ has.
      let counts = chain_counts image o store its _ a has in
      let same : counts.0 ≡ x = one (log_of_store image o store) o.entries.items its a counts.0 x counts.1.valid.stands stands in
      let here : CountsAtHome (log_of_store image o store) a x = subst (λ (y : Record). Counts (log_of_store image o store) (record_home store.newest.shape.bucket_bits x) a y) same counts.1 in
      old_losses (log_of_store image o store) a x from within stands valid store.lost.left_out o.lost.items store.lost.extends (here.version from) ∙ here.not_lost from,
  λ kept. ⊎_elim
      (λ newer.
      let this = store.sound.scan.records a from within in
      let same : this.held ≡ x = one (log_of_store image o store) o.entries.items its a this.held x this.fits.stands stands in
      let most : version_of (log_of_store image o store) x ≤ (let log = log_of_store image o store in log.version) + 1 = subst (λ (y : Record). version_of (log_of_store image o store) y ≤ (let log = log_of_store image o store in log.version) + 1) same this.fits.old_enough in
      absurd (new_losses (log_of_store image o store) a x from within stands valid store.lost.left_out o.lost.items store.lost.tells store.lost.extends (omega (arith, newer, most)) kept))
      (λ old. counts_chain image o store its _ a (
        x,
        record {
          reached = in_scan a x from within stands valid;
          valid = record { stands = stands; valid = valid; same = refl };
          old_enough = (let least = version_least store.newest.slot.number x.header.version.0 in omega (arith, least, old));
          version = λ _. old;
          not_lost = λ _. sym (old_losses (log_of_store image o store) a x from within stands valid store.lost.left_out o.lost.items store.lost.extends old) ∙ kept;
        },
      ))
      (cases_lt store.newest.slot.number (version_of (log_of_store image o store) x)),
)
