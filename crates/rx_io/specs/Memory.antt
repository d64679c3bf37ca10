-- Objects in memory as their callers see them: what they hold, how much a call moves, and which calls fail.
--   CallLog, IsFresh, IsDue, Passes, Fails   the calls of an object
--   SourceState, SinkState, ShelfState       the objects
use Rattle.std.specs.Prelude.{◌≡◌, ℕ, ◌+◌, ◌-◌, ◌^◌, ◌<◌, min, List, Contains}
use Rattle.rx_io.specs.Shelf.{Texts}

-- the numbers of the calls that fail, counted from 1, how many were made, and how many failed
pub record CallLog : Type 0 where
  pub fails : List ℕ
  pub made : ℕ
  pub faults : ℕ

-- no call was made, and those of these numbers will fail
pub record IsFresh (fails : List ℕ) (log : CallLog) : Type 0 where
  pub same_fails : log.fails ≡ fails
  pub none_made : log.made ≡ 0
  pub no_faults : log.faults ≡ 0

-- the next call is one of those that fail; calls past the greatest number of 64 bits have no number
abbrev pub IsDue : CallLog → Type 0
IsDue log = (log.made < 2 ^ 64 - 1) × Contains log.fails (log.made + 1)

-- one more, but for the greatest number of 64 bits, where counts stay
abbrev pub one_more : ℕ → ℕ
one_more n = min (n + 1) (2 ^ 64 - 1)

-- a call was made that did not fail
pub record Passes (old new : CallLog) : Type 0 where
  pub same_fails : new.fails ≡ old.fails
  pub made : new.made ≡ one_more old.made
  pub faults : new.faults ≡ old.faults

-- a call was made that failed
pub record Fails (old new : CallLog) : Type 0 where
  pub same_fails : new.fails ≡ old.fails
  pub made : new.made ≡ one_more old.made
  pub faults : new.faults ≡ one_more old.faults

-- a source: the bytes that are left, the most that a read moves, its calls
pub record SourceState : Type 0 where
  pub left : List ℕ
  pub piece : ℕ
  pub calls : CallLog

-- a sink: what was written, how much it holds at most, the most that a write moves, its calls
pub record SinkState : Type 0 where
  pub written : List ℕ
  pub room : ℕ
  pub piece : ℕ
  pub calls : CallLog

-- a shelf: its texts by their names, its calls
pub record ShelfState : Type 0 where
  pub texts : Texts
  pub calls : CallLog
