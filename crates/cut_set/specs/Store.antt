-- The set: a part of a list, and the numbers that say where its runs end. TO READ: contracts mean what stands here.
--     Good xs s               s keeps a set in xs
--     Finished, Found, Member     what is finished, what is newly found, and either
--     NothingFound, NothingAdded      nothing is newly found; nothing was added since the set was gathered
--     found_in, found_end       what is newly found, as a list; the place behind it
--     FoundRun, AllRun        what is newly found is one run; all members are
--     Emptied, Gathered, AllFinished, Joined      what the calls that only rearrange do
--     Stored P, Crowded P     all numbers with P are now in the set; there is no room for one of them
--     Cramped P               some numbers with P are now in the set, and there is no room for one more
--     Adding                  what adding a number does, by its answer
--     NotesOf                 the notes of a set
--     Standing, SortedApart, NewOnes, RoomForOne, bare, GatheredBare      what gathering and adding do step by step
-- Assumes nothing.
use Rattle.std.specs.Prelude.{ℕ, ◌+◌, ◌-◌, ◌/◌, ◌≤◌, ◌<◌, ◌≡◌, List, ◌↔◌, ◌⊎◌, length, get_or}
use Rattle.std.proofs.Math.Seq.{slice}
use Rattle.runs.specs.Runs.{In, Run, RisingIn, DistinctIn}
use Rattle.noting.specs.Notes.{Noted}
use Rattle.cut_set.specs.declared.CutSet.{CutSet}
use Rattle.cut_set.specs.declared.Added.{Added}
use Rattle.cut_set.specs.declared.Added.TheVariants.{Held, Full}

-- the places [top, limit) have a note of each number that was gathered, if there are such places
pub record NotesOf (xs : List ℕ) (s : CutSet) : Type 0 where
  pub order : s.top ≤ s.limit
  pub few : s.limit ≤ s.top + 134217728
  pub noted : s.top < s.limit → (y : ℕ) → In xs s.base s.fresh y → Noted xs s.top s.limit y

-- s keeps a set in the part [base, limit) of xs: finished members in three rising runs, the short one of at most 512;
-- newly found ones in a rising run, none of them finished; and behind it what was added since, in any order, which may be
-- members already. To sort that, half as many places are free.
pub record Good (xs : List ℕ) (s : CutSet) : Type 0 where
  pub finished_long : Run xs s.base s.long
  pub finished_middle : Run xs s.long s.mid
  pub finished_short : Run xs s.mid s.done
  pub found_run : Run xs s.done s.fresh
  pub few_finished : s.done ≤ s.mid + 512
  pub added : s.fresh ≤ s.used
  pub room : s.used + (s.used - s.fresh) / 2 ≤ s.top
  pub notes : NotesOf xs s
  pub within : s.limit ≤ length xs
  pub distinct : DistinctIn xs s.base s.fresh

-- y is a finished member
abbrev pub Finished : List ℕ → CutSet → ℕ → Type 0
Finished xs s y = In xs s.base s.done y

-- y is a newly found member
abbrev pub Found : List ℕ → CutSet → ℕ → Type 0
Found xs s y = In xs s.done s.used y

-- y is a member
abbrev pub Member : List ℕ → CutSet → ℕ → Type 0
Member xs s y = In xs s.base s.used y

-- no member is newly found
abbrev pub NothingFound : CutSet → Type 0
NothingFound s = s.done ≡ s.used

-- no number was added since the set was gathered
abbrev pub NothingAdded : CutSet → Type 0
NothingAdded s = s.fresh ≡ s.used

-- the newly found members in the order of their places, and the place behind the last one
abbrev pub found_in : List ℕ → CutSet → List ℕ
found_in xs s = slice s.done s.used xs

abbrev pub found_end : CutSet → ℕ
found_end s = s.used

-- the newly found members are one rising run, the places [done, used)
abbrev pub FoundRun : List ℕ → CutSet → Type 0
FoundRun xs s = RisingIn xs s.done s.used

-- all members are one rising run, the places [base, used)
abbrev pub AllRun : List ℕ → CutSet → Type 0
AllRun xs s = RisingIn xs s.base s.used

-- the numbers outside the set's part are the same in both lists
abbrev pub Outside : CutSet → List ℕ → List ℕ → Type 0
Outside s xs ys = (k : ℕ) → (k < s.base) ⊎ (s.limit ≤ k) → get_or ys k 0 ≡ get_or xs k 0

-- a part of a list in which a set can be kept
pub record Part (xs : List ℕ) (base limit : ℕ) : Type 0 where
  pub order : base ≤ limit
  pub within : limit ≤ length xs

-- a set with no member in that part
pub record Emptied (xs : List ℕ) (base limit : ℕ) (s : CutSet) : Type 0 where
  pub good : Good xs s
  pub base_is : s.base ≡ base
  pub limit_is : s.limit ≡ limit
  pub done_is : s.done ≡ base
  pub fresh_is : s.fresh ≡ base
  pub used_is : s.used ≡ base

-- t keeps in ys the members that s keeps in xs, in the same part
pub record Kept (xs : List ℕ) (s : CutSet) (ys : List ℕ) (t : CutSet) : Type 0 where
  pub good : Good ys t
  pub base_same : t.base ≡ s.base
  pub limit_same : t.limit ≡ s.limit
  pub members : (y : ℕ) → Member ys t y ↔ Member xs s y
  pub outside : Outside s xs ys

-- besides, the newly found ones are now one run, without what was added though it was finished
pub record Gathered (xs : List ℕ) (s : CutSet) (ys : List ℕ) (t : CutSet) : Type 0 where
  pub kept : Kept xs s ys t
  pub done_same : t.done ≡ s.done
  pub finished : (y : ℕ) → Finished ys t y ↔ Finished xs s y
  pub only : (y : ℕ) → Found ys t y → Found xs s y
  pub run_kept : (y : ℕ) → In xs s.done s.fresh y → In ys t.done t.fresh y
  pub more : s.fresh ≤ t.fresh
  pub run : FoundRun ys t
  pub ready : NothingAdded t

-- besides, all members are now finished
pub record AllFinished (xs : List ℕ) (s : CutSet) (ys : List ℕ) (t : CutSet) : Type 0 where
  pub kept : Kept xs s ys t
  pub used_same : t.used ≡ s.used
  pub all : NothingFound t

-- besides, all members are now one rising run
pub record Joined (xs : List ℕ) (s : CutSet) (ys : List ℕ) (t : CutSet) : Type 0 where
  pub kept : Kept xs s ys t
  pub run : AllRun ys t

-- every number with P is now a member; besides, only numbers with P have come, as newly found, and nothing has gone
pub record Stored (P : ℕ → Type 0) (xs : List ℕ) (s : CutSet) (ys : List ℕ) (t : CutSet) : Type 0 where
  pub good : Good ys t
  pub base_same : t.base ≡ s.base
  pub limit_same : t.limit ≡ s.limit
  pub done_same : t.done ≡ s.done
  pub finished : (y : ℕ) → Finished ys t y ↔ Finished xs s y
  pub stays : (y : ℕ) → Member xs s y → Member ys t y
  pub run_kept : (y : ℕ) → In xs s.done s.fresh y → In ys t.done t.fresh y
  pub only : (y : ℕ) → Found ys t y → Found xs s y ⊎ P y
  pub held : (y : ℕ) → P y → Member ys t y
  pub more : s.fresh ≤ t.fresh
  pub outside : Outside s xs ys

-- every place holds a member, and some number with P is none
pub record Crowded (P : ℕ → Type 0) (xs : List ℕ) (s : CutSet) : Type 0 where
  pub full : s.used ≡ s.limit
  pub missing : ℕ
  pub wanted : P missing
  pub absent : Member xs s missing → ⊥

-- some of the numbers with P were stored; then every place holds a member, and one with P is none
pub record Cramped (P : ℕ → Type 0) (xs : List ℕ) (s : CutSet) (ys : List ℕ) (t : CutSet) : Type 0 where
  pub stored : Stored (λ y. P y × Member ys t y) xs s ys t
  pub ready : NothingAdded t
  pub bare : t.top ≡ t.limit
  pub crowded : Crowded P ys t

-- what adding x does, by its answer: no room only where every place holds a member and x is none
abbrev pub Adding : List ℕ → CutSet → ℕ → List ℕ → Added → Type 0
Adding xs s x ys (Held t) = Stored (λ y. y ≡ x) xs s ys t
Adding xs s x ys (Full t) = Cramped (λ y. y ≡ x) xs s ys t

-- there is a place for one number more, with what it takes to sort it
abbrev pub RoomForOne : CutSet → Type 0
RoomForOne s = s.used + (s.used + 1 - s.fresh) / 2 < s.top

-- the runs of a set and its notes, whatever stands behind the runs
pub record Standing (xs : List ℕ) (s : CutSet) : Type 0 where
  pub finished_long : Run xs s.base s.long
  pub finished_middle : Run xs s.long s.mid
  pub finished_short : Run xs s.mid s.done
  pub found_run : Run xs s.done s.fresh
  pub notes : NotesOf xs s
  pub within : s.limit ≤ length xs

-- what was added is sorted, and stands at [fresh, end)
pub record SortedApart (xs : List ℕ) (s : CutSet) (end : ℕ) : Type 0 where
  pub standing : Standing xs s
  pub added : Run xs s.fresh end
  pub apart : end ≤ s.top

-- what of it is new stands at [fresh, r), and no place outside of [fresh, end) has changed
pub record NewOnes (xs : List ℕ) (s : CutSet) (end : ℕ) (ys : List ℕ) (r : ℕ) : Type 0 where
  pub from : s.fresh ≤ r
  pub to : r ≤ end
  pub rising : RisingIn ys s.fresh r
  pub same : (y : ℕ) → In ys s.fresh r y ↔ (In xs s.fresh end y × (In xs s.base s.fresh y → ⊥))
  pub before : (k : ℕ) → k < s.fresh → get_or ys k 0 ≡ get_or xs k 0
  pub behind : (k : ℕ) → end ≤ k → get_or ys k 0 ≡ get_or xs k 0

-- the set without its notes
abbrev pub bare : CutSet → CutSet
bare s = record {
  base = s.base;
  long = s.long;
  mid = s.mid;
  done = s.done;
  fresh = s.fresh;
  used = s.used;
  top = s.limit;
  limit = s.limit;
}

-- gathered, and without notes
pub record GatheredBare (xs : List ℕ) (s : CutSet) (ys : List ℕ) (t : CutSet) : Type 0 where
  pub gathered : Gathered xs s ys t
  pub none : t.top ≡ t.limit
