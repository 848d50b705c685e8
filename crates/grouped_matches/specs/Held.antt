-- Grouped matches, as the definitions speak of them.
--     tracked_in m marks     the matches with the tracks of their groups, beside marks
-- Assumes nothing.
use Rattle.std.specs.Prelude.{List}
use Rattle.refinement.specs.Match.{Place}
use Rattle.match_columns.specs.Held.{columns_in}
use Rattle.tracks.specs.Tracks.{Tracked}
use Rattle.tracks.specs.Groups.{grouped}
use Rattle.grouped_matches.specs.declared.GroupedMatches.{GroupedMatches}

abbrev pub tracked_in : GroupedMatches → List Place → Tracked
tracked_in m marks = grouped (columns_in m.matches) m.groups.now m.count marks
