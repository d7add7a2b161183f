-- Gathering the values of keys along a chain.
use Rattle.std.proofs.Common.{◌≡◌, ◌≢◌, ◌⊎◌, inl, inr, ⊎_elim, ℕ, ◌^◌, ◌<◌, true, false, cond, Option, Some, None, List, refl, sym, ap, subst, ◌∙◌, arith}
use Rattle.std.specs.Ordering.{nat_cmp, is_eq}
use Rattle.std.specs.Option.{is_some}
use Rattle.std.proofs.lemmas.Bool.Decides.{nat_tests}
use Rattle.fkv_base.specs.declared.numbers.Key.{Key}
use Rattle.fkv_base.specs.declared.shapes.Shape.{Shape}
use Rattle.fkv_words.specs.Fields.{Reads, SpellsApart}
use Rattle.fkv_disk.specs.Bytes.{bytes_at}
use Rattle.fkv_record.specs.declared.records.Record.{Record}
use Rattle.fkv_record.specs.Layout.{record_bytes}
use Rattle.fkv_record.specs.Places.{record_place}
use Rattle.fkv_words.specs.Home.{bucket_of, tag_of}
use Rattle.fkv_scan.specs.Log.{Log, home, record_home}
use Rattle.fkv_scan.specs.Records.{Stands, next_of}
use Rattle.fkv_scan.specs.Scan.{Has}
use Rattle.fkv_scan.proofs.Shown.{got, kept_some, new_some}
use Rattle.fkv_chains.specs.Along.{IsAlong, here, on}
use Rattle.fkv_chains.specs.Entries.{Counts, IsEntry}
use Rattle.fkv_chains.proofs.Shown.{none_along}
use Rattle.fkv_pairs.specs.Gathered.{IsFaultless, IsReadFrom, AreNewest, IsGathered, lower_or_none}
use Rattle.fkv_pairs.specs.Pairs.{IsNewest}
use Rattle.fkv_pairs.proofs.Meeting.{one}
use Rattle.fkv_pairs.proofs.Chained.{falls, next_counts, along_counts, entry_along}

-- what is gathered of a home's chain before an address of it is met
pub record IsGathering (log : Log) (its_home : ℕ) (before at : ℕ → Option ℕ) (a : ℕ) : Type 0 where
  pub newest : AreNewest log at
  pub keeps : (k : ℕ) → is_some (before k) ≡ true → is_some (at k) ≡ true
  pub left : (b : ℕ) (y : Record) → Counts log its_home b y → (is_some (at y.key.0) ≡ true) ⊎ IsAlong log a b
  pub here_counts : a ≢ 0 → Has (Counts log its_home) a

lower : (a limit : ℕ) → a < limit → lower_or_none a limit ≡ a
unfolding lower_or_none
lower a limit below = grind (arith, nat_tests)

pub next_short : (p a n : ℕ) → n ≡ lower_or_none p a → a < 2 ^ 48 → n < 2 ^ 48
unfolding lower_or_none
next_short p a n is below = grind (arith, nat_tests)

-- what was read is what the log has at the address
pub read_of : (image : List ℕ) (its_shape : Shape) (begin : ℕ) (log : Log) → IsReadFrom image its_shape begin log → (a : ℕ) (read : Option Record) → Reads record_bytes (bytes_at image (record_place its_shape a) 24) read → Reads record_bytes (bytes_at log.image (record_place log.shape a) 24) read
read_of image its_shape begin log from a read reads =
    subst (λ (i : List ℕ). Reads record_bytes (bytes_at i (record_place log.shape a) 24) read) (sym from.bytes)
    (subst (λ (s : Shape). Reads record_bytes (bytes_at image (record_place s a) 24) read) (sym from.sizes) reads)

pub none_is : (o : Option Record) → ((x : Record) → o ≡ Some x → ⊥) → o ≡ None
none_is None no_one = refl
none_is (Some x) no_one = absurd (no_one x refl)

-- records of one key are of one home
home_by_key : (bits : ℕ) (y x : Record) → y.key ≡ x.key → record_home bits y ≡ record_home bits x
unfolding record_home
home_by_key bits y x same = ap (λ (k : Key). home (bucket_of k bits) (tag_of k bits)) same

module _ (spelled : SpellsApart record_bytes) (log : Log) (sound : IsFaultless log) (its_home : ℕ) (before : ℕ → Option ℕ) where
  pub gather_first : (e : ℕ) → IsEntry log its_home e → AreNewest log before → IsGathering log its_home before before e
  gather_first e entry newest = record {
    newest = newest;
    keeps = λ k had. had;
    left = λ b y counts. inr (entry_along spelled log sound its_home e b y entry counts);
    here_counts = λ some. entry.counts;
  }

  -- at the chain's end
  pub all_gathered : (at : ℕ → Option ℕ) → IsGathering log its_home before at 0 → IsGathered log its_home before at
  all_gathered at so_far = record {
    newest = so_far.newest;
    keeps = so_far.keeps;
    all = λ b y counts. ⊎_elim (λ had. had) (λ along. absurd (none_along log b along)) (so_far.left b y counts);
  }

  module _ (at : ℕ → Option ℕ) (a : ℕ) (some : a ≢ 0) (so_far : IsGathering log its_home before at a) (x : Record) (stands : Stands log a x) where
    its_counts : Counts log its_home a x
    its_counts = (let has = so_far.here_counts some in subst (λ (y : Record). Counts log its_home a y) (one spelled log sound a has.0 x has.1.valid.stands stands) has.1)

    -- the next address along the chain
    next_is : lower_or_none (next_of log x) a ≡ next_of log x
    next_is = lower (next_of log x) a (falls spelled log sound its_home a x its_counts)

    -- once the key of this record has something
    step : (next : ℕ → Option ℕ) (b : ℕ) (y : Record) → Counts log its_home b y → is_some (next x.key.0) ≡ true → IsAlong log a b → (is_some (next y.key.0) ≡ true) ⊎ IsAlong log (next_of log x) b
    step next b y counts has (here _ _) = inl (ap (λ (z : Record). is_some (next z.key.0)) (one spelled log sound a y x counts.valid.stands stands) ∙ has)
    step next b y counts has (on _ _ z _ its rest) = inr (subst (λ (w : Record). IsAlong log (next_of log w) b) (one spelled log sound a z x its stands) rest)

    pub gather_on : (next : ℕ → Option ℕ) → AreNewest log next → ((k : ℕ) → is_some (at k) ≡ true → is_some (next k) ≡ true) → is_some (next x.key.0) ≡ true → IsGathering log its_home before next (lower_or_none (next_of log x) a)
    gather_on next newest keeps has = subst (λ (n : ℕ). IsGathering log its_home before next n) (sym next_is) (record {
      newest = newest;
      keeps = λ k had. keeps k (so_far.keeps k had);
      left = λ b y counts. ⊎_elim (λ had. inl (keeps y.key.0 had)) (λ along. step next b y counts has along) (so_far.left b y counts);
      here_counts = λ more. next_counts spelled log sound its_home a x its_counts more;
    })

    -- a key that is new along the chain has its newest record here
    newest_here : is_some (at x.key.0) ≡ false → IsNewest log x.key a x
    newest_here new = record {
      counts = subst (λ (h : ℕ). Counts log h a x) (sym its_counts.valid.same) its_counts;
      of_key = refl;
      greatest = λ b y counts same.
          let of_home : record_home log.shape.bucket_bits y ≡ its_home = home_by_key log.shape.bucket_bits y x same ∙ its_counts.valid.same in
          ⊎_elim
          (λ had. let off : true ≡ false = sym had ∙ ap (λ (k : Key). is_some (at k.0)) same ∙ new in absurd (cc))
          (λ along. (along_counts spelled log sound its_home a b (x, its_counts) along).1)
          (so_far.left b y (subst (λ (h : ℕ). Counts log h b y) of_home counts));
    }

    pub gather_new : (next : ℕ → Option ℕ) (k v : ℕ) → k ≡ x.key.0 → v ≡ x.value → is_some (at k) ≡ false → ((q : ℕ) → next q ≡ cond (is_eq (nat_cmp k q)) (Some v) (at q)) → IsGathering log its_home before next (lower_or_none (next_of log x) a)
    gather_new next k v this_key this_value new updates = gather_on next newest keeps has
      where
        newest : AreNewest log next
        newest q w is = ⊎_elim
            (λ same. record {
              addr = a;
              held = x;
              newest = subst (λ (n : ℕ). IsNewest log (record { 0 = n }) a x) (sym this_key ∙ same.0) (newest_here (ap (λ (n : ℕ). is_some (at n)) (sym this_key) ∙ new));
              written = sym this_value ∙ same.1;
            })
            (so_far.newest q w)
            (got k q v (at q) w (sym (updates q) ∙ is))

        keeps : (q : ℕ) → is_some (at q) ≡ true → is_some (next q) ≡ true
        keeps q had = ap is_some (updates q) ∙ kept_some k q v (at q) had

        has : is_some (next x.key.0) ≡ true
        has = ap is_some (updates x.key.0) ∙ new_some k x.key.0 v (at x.key.0) this_key

    -- the key is there already
    pub gather_seen : is_some (at x.key.0) ≡ true → IsGathering log its_home before at (lower_or_none (next_of log x) a)
    gather_seen has = gather_on at so_far.newest (λ k had. had) has
