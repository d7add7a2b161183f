-- What holds as a machine begins and is kept by each reply holds over every list of replies; and what exchanges that change nothing keep.
use Rattle.std.proofs.Common.{◌≡◌, ℕ, refl, inr, List}
use Rattle.std.specs.Prelude.{[], ◌∷◌}
use Rattle.fkv_plane.specs.declared.asks.Ask.{Ask}
use Rattle.fkv_plane.specs.declared.asks.Ask.TheVariants.{Load, Store, Swap, Cas, Add, Max, Put, Take, Done}
use Rattle.fkv_plane.specs.Passing.{passed}
use Rattle.fkv_epoch.specs.Once.{Among}
use Rattle.fkv_commit.specs.Exchanges.{Exchange, exchanged, run_of, exchanges}

pub by_replies : {S A : Type 0} (ask : S → Ask A) (next : S → ℕ → S) (P : S → List Exchange → Type 0) (opening : S) → P opening []
    → ((s : S) (told : List Exchange) (reply : ℕ) → P s told → P (next s reply) (exchanged (ask s) reply told))
    → (replies : List ℕ) → P (run_of next opening replies) (exchanges ask next opening replies)
unfolding run_of exchanges
by_replies ask next P opening begins keeps [] = begins
by_replies ask next P opening begins keeps (reply ∷ before) = keeps (run_of next opening before) (exchanges ask next opening before) reply (by_replies ask next P opening begins keeps before)

-- what is passed on is the same exchange
pub passed_exchanged : {A B : Type 0} (ask : Ask A) (told_as : B) (reply : ℕ) (told : List Exchange) → exchanged (passed ask told_as) reply told ≡ exchanged ask reply told
unfolding passed exchanged
passed_exchanged (Load place) told_as reply told = refl
passed_exchanged (Store place new) told_as reply told = refl
passed_exchanged (Swap place new) told_as reply told = refl
passed_exchanged (Cas place old new) told_as reply told = refl
passed_exchanged (Add place k) told_as reply told = refl
passed_exchanged (Max place k) told_as reply told = refl
passed_exchanged (Put slot action) told_as reply told = refl
passed_exchanged (Take slot) told_as reply told = refl
passed_exchanged (Done its) told_as reply told = refl

-- what was told stays told
pub stays_among : {A : Type 0} (x : Exchange) (ask : Ask A) (reply : ℕ) (told : List Exchange) → Among x told → Among x (exchanged ask reply told)
unfolding exchanged
stays_among x (Done its) reply told h = h
stays_among x ask reply told h = inr h
