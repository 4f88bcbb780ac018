-- The replies of the calls on images, and what the arrays lent for a profile then hold (docs/RULES.md, "The calls").
use Rattle.refusal.specs.declared.Refusal.{Refusal}
use Rattle.lookup.specs.declared.Probe.{Probe}
use Rattle.std.specs.Prelude.{ℕ, ◌≡◌, List, Result, Err, Ok}
use Rattle.image.specs.declared.Summary.{Summary}
use Rattle.image.specs.declared.Checked.{Checked}
use Rattle.pair.specs.declared.PairRefusal.{PairRefusal}
use Rattle.pair.specs.declared.PairRefusal.TheVariants as pair
use Rattle.changes.specs.declared.Lists.{Lists}
use Rattle.reply.specs.Reply.{Reply, Tells, gives, refuses_of, refuses, reply_by, number_reply, unit_reply}

-- checking and reading an image: the version, and the numbers of ranges and of profile entries
abbrev pub checked_by : Result Summary Refusal → ℕ → Reply
checked_by (Err r) used = refuses r
checked_by (Ok x) used = gives x.version x.ranges used

abbrev pub check_reply : Checked → Reply
check_reply k = checked_by k.answer k.profile.used

-- an array lent for the profile: that of an accepted image; a refusal leaves it as it was
abbrev pub array_by : Result Summary Refusal → List ℕ → List ℕ → List ℕ
array_by (Err r) new old = old
array_by (Ok x) new old = new

-- result, answer array, and the two arrays lent for the profile are those of what a check gave
pub record TellsChecked (k : Checked) (points roles : List ℕ) (n : ℕ) (answer new_points new_roles : List ℕ) : Type 0 where
  pub told : Tells (check_reply k) n answer
  pub points_kept : new_points ≡ array_by k.answer k.profile.points points
  pub roles_kept : new_roles ≡ array_by k.answer k.profile.roles roles

-- looking up: the class after the profile, and how many ranges were looked at
abbrev pub probe_reply : Probe → Reply
probe_reply p = gives p.class p.count 0

abbrev pub found_reply : Result Probe Refusal → Reply
found_reply r = reply_by probe_reply refuses r

-- writing: the bytes of the image
abbrev pub written_reply : Result ℕ Refusal → Reply
written_reply r = reply_by number_reply refuses r

-- a refusal of a call on two images tells which image it is of, 1 the older, 2 the newer, 0 neither
abbrev pub refuses_pair : PairRefusal → Reply
refuses_pair (pair.Older r) = refuses_of 1 r
refuses_pair (pair.Newer r) = refuses_of 2 r
refuses_pair (pair.Neither r) = refuses r

-- the pair check
abbrev pub pair_reply : Result (Unit {0}) PairRefusal → Reply
pair_reply r = reply_by unit_reply refuses_pair r

-- the list of changes: the numbers of runs and of entries
abbrev pub lists_reply : Lists → Reply
lists_reply l = gives l.runs l.entries 0

abbrev pub changes_reply : Result Lists PairRefusal → Reply
changes_reply r = reply_by lists_reply refuses_pair r
