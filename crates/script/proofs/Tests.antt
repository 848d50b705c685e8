-- What `search` needs for a function that only tests numbers: each test's value from the fact that its branch knows, so
-- that a definition by `cond` on the same tests goes the code's way.
--     tests     the rules, with the ordinary ones for a need
-- Assumes nothing.
use borrow.Author.Rules.{rules}
use borrow.Author.Tests.{eq-eqb, ne_eqb, lt-ltb, le-ltb, le-leb, lt-leb}

pub ruleset tests = (rules, eq-eqb, ne_eqb, lt-ltb, le-ltb, le-leb, lt-leb)
