-- What storing in one set leaves of another.
--     same-apart, good-apart      what changes only the one set leaves the other as it is
--     apart-same                  sets that share no place
--     ready-then                  storing leaves the worker ready to go on
-- Assumes nothing.
use Prim.Native.Nat.{ℕ}
use native.Mathlib.Omega.{arith}
use mathlib.Core.Path.{◌≡◌}
use mathlib.Core.List.{List}
use mathlib.Core.Logic.{inl, inr}
use lib.ListN.{length}
use Rattle.runs.specs.Runs.{Same}
use Rattle.cut_set.specs.Store.{Good, Outside, Stored}
use Rattle.cut_set.specs.declared.CutSet.{CutSet}
use Rattle.cut_set.proofs.Laws.{good-same}
use Rattle.carrying_match.specs.OneMatch.{Apart, Ready}

module _ (xs ys : List ℕ) {s t : CutSet} where
  pub same-apart : Apart s t → Outside t xs ys → Same xs ys s.base s.limit
  same-apart (Apart.before h) o k l u = o k (inl (omega arith))
  same-apart (Apart.behind h) o k l u = o k (inr (omega arith))

  good-apart : Apart s t → Outside t xs ys → length ys ≡ length xs → Good xs s → Good ys s
  good-apart a o n g = good-same xs ys (same-apart a o) n g

apart-same : {s t u : CutSet} → u.base ≡ t.base → u.limit ≡ t.limit → Apart s t → Apart s u
apart-same a b (Apart.before h) = Apart.before (omega arith)
apart-same a b (Apart.behind h) = Apart.behind (omega arith)

pub ready-then :
    {P : ℕ → Type 0} {xs ys : List ℕ} {from to t : CutSet} → Ready xs from to → Stored P xs to ys t
    → length ys ≡ length xs → Ready ys from t
ready-then {xs = xs} {ys = ys} r p n = record {
  from_good = good-apart xs ys r.apart p.outside n r.from_good;
  to_good = p.good;
  apart = apart-same p.base_same p.limit_same r.apart;
}
