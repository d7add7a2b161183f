-- The mark of a version.
use Rattle.std.specs.Prelude.{ℕ, ◌-◌, ◌*◌, ◌/◌}

-- The versions 1, 2, 3, .. have the marks 1 to 8191 in turn, again and again. 0 is no version, and stays 0.
unfoldable pub mark : ℕ → ℕ
mark version = version - (version - 1) / 8191 * 8191
