-- 01's limits, each in one place. TO READ: contracts mean what stands here.
-- 01, "The script"; 02, #106. Assumes nothing.
use Rattle.std.specs.Prelude.{ℕ, ◌+◌, ◌*◌}
use Rattle.script.specs.Commands.{lengths_width, match_width, mark_width}

-- SCOPE, "Limits": the most letters of a sequence
abbrev pub longest : ℕ
longest = 1_000_000_000

-- SCOPE, "Limits": the most matches of a script
abbrev pub most_matches : ℕ
most_matches = 2048

-- SCOPE, "Limits": the most marks of a script
abbrev pub most_marks : ℕ
most_marks = 512

-- SCOPE, "Limits": lengths, the most matches and marks, end; together 29,706 bytes (law longest-script)
abbrev pub longest_script : ℕ
longest_script = lengths_width + match_width * most_matches + mark_width * most_marks + 1
