-- A chain as its links tell it. Only the chaining call promises anything by it.
--     link_at links k                 the number that row k, counted from 1, is linked to; 0 is none
--     Trail links k ks               from k on the links lead through ks
--     Leads links k room             they lead through a chain for which there is room
--     Written links k chain chain' n the chain is at the front of chain', and what stands behind it is kept
-- Assumes nothing.
use Rattle.std.specs.Prelude.{ℕ, ◌-◌, ◌≤◌, ◌≡◌, List, [], ◌∷◌, ◌++◌, length, get_or, drop}

abbrev pub link_at : List ℕ → ℕ → ℕ
link_at links k = get_or links (k - 1) 0

pub data Trail (links : List ℕ) : ℕ → List ℕ → Type 0 where
  ends : Trail links 0 []
  leads : {k : ℕ} {ks : List ℕ} → 1 ≤ k → k ≤ length links → Trail links (link_at links k) ks → Trail links k (k ∷ ks)

pub record Leads (links : List ℕ) (k room : ℕ) : Type 0 where
  pub through : List ℕ
  pub trail : Trail links k through
  pub fits : length through ≤ room

pub record Written (links : List ℕ) (k : ℕ) (chain chain' : List ℕ) (n : ℕ) : Type 0 where
  pub written : (ks : List ℕ) → Trail links k ks → (n ≡ length ks) × (chain' ≡ ks ++ drop (length ks) chain)
