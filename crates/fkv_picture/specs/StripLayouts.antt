-- How the pages of a log are laid out as bars.
use Rattle.std.specs.Prelude.{ℕ, ◌+◌, ◌-◌, ◌/◌, max, min}

-- all pages of the device if they are at most 112; else those in use, but at least 112
abbrev pub drawn_pages : ℕ → ℕ → ℕ
drawn_pages on_device used = min on_device (max used 112)

-- so many that at most 112 bars are needed
abbrev pub pages_a_bar : ℕ → ℕ
pages_a_bar drawn = (drawn + 111) / 112

abbrev pub bars_a_strip : ℕ → ℕ → ℕ
bars_a_strip drawn a_bar = (drawn + a_bar - 1) / a_bar

-- as wide as they fit side by side
abbrev pub width_of_bars : ℕ → ℕ
width_of_bars bars = min (1120 / bars) 80
