-- Space distributed up to limits: the Rust's float steps in the Rust's order. Assumes nothing.
use Rattle.std.specs.Prelude.{◌≡◌, Bool, true, false, cond, ◌&&◌, ◌||◌, List, [], ℕ, zero, suc, length, get_or, set, Float}
use Rattle.std.specs.Float.Ieee as Ieee
use Rattle.std.specs.Float.{nan, binary32}
use Rattle.laws.specs.Turns.{turns}
use Rattle.float_laws.specs.Numbers.{zero32, minus_zero, hundredth, infinity}
use Rattle.float_laws.specs.Std.{min_of}
use Rattle.float_track.specs.declared.track.Track.{Track}
use Rattle.float_track.specs.Track.{track_of, row_of, with_sizes}
use Rattle.float_distribution.specs.declared.part.Part.{Part}
use Rattle.float_distribution.specs.declared.part.Grown.{Grown}

-- Stops at space at or below 0.01, allows limit + 0.01.
abbrev pub threshold : Float
threshold = hundredth

-- ---- One track

-- the size that grows, with what it has grown by
abbrev pub size_now : Part → Track → Float
size_now p t = Ieee.add binary32 p.size t.item_incurred_increase

-- An affected track below its limit is open.
abbrev pub is_open : Part → Track → Bool
is_open p t = Ieee.lt (size_now p t) p.limit && p.affected

-- How far an open track is from its limit, by its proportion.
abbrev pub room_of : Part → Track → Float
room_of p t =
    Ieee.div binary32 (Ieee.sub binary32 (Ieee.sub binary32 p.limit p.size) t.item_incurred_increase) p.proportion

abbrev pub add_proportion : Part → Track → Float → Float
add_proportion p t sum = cond (is_open p t) (Ieee.add binary32 sum p.proportion) sum

abbrev pub less_room : Part → Track → Float → Float
less_room p t least = cond (is_open p t) (min_of (room_of p t) least) least

-- the increase is above 0, and with it the track stays at or below its limit and the threshold
abbrev pub takes : Part → Track → Float → Bool
takes p t increase =
    p.affected
    && (Ieee.lt zero32 increase
    && Ieee.le (Ieee.add binary32 (size_now p t) increase) (Ieee.add binary32 p.limit threshold))

abbrev pub grown_to : Track → Float → Float → Grown
grown_to t incurred space = record { track = with_sizes t t.base_size incurred; space = space }

abbrev pub grown_by : Part → Track → Float → Float → Grown
grown_by p t increase space =
    elim (takes p t increase) [
      | true ↦ grown_to t (Ieee.add binary32 t.item_incurred_increase increase) (Ieee.sub binary32 space increase)
      | false ↦ grown_to t t.item_incurred_increase space
    ]

-- An affected track takes its part of the share, if there is one and it fits.
abbrev pub grown : Part → Track → Float → Float → Grown
grown p t share space = grown_by p t (Ieee.mul binary32 share p.proportion) space

-- ---- The lists, and each track's part in them

pub record Lists : Type 0 where
  pub affected : List Bool
  pub proportions : List Float
  pub sizes : List Float
  pub limits : List Float

abbrev pub lists : List Bool → List Float → List Float → List Float → Lists
lists fs ps ss ls = record { affected = fs; proportions = ps; sizes = ss; limits = ls }

-- each list has n places
pub record OneLength (fs : List Bool) (ps ss ls : List Float) (n : ℕ) : Type 0 where
  pub affected : length fs ≡ n
  pub proportions : length ps ≡ n
  pub sizes : length ss ≡ n
  pub limits : length ls ≡ n

abbrev pub part_at : Lists → ℕ → Part
part_at l i = record {
  affected = get_or l.affected i false;
  proportion = get_or l.proportions i nan;
  size = get_or l.sizes i nan;
  limit = get_or l.limits i nan;
}

-- The track at a place of the store. The mark is neither read nor written.
abbrev pub track_at : List (List Float) → ℕ → Track
track_at rows i = track_of (get_or rows i []) false

-- ---- One pass

module _ (l : Lists) where
  -- The proportions of the open tracks, added in order from -0.0.
  abbrev pub proportion_step : List (List Float) → ℕ → Float → Float
  proportion_step rows i sum = add_proportion (part_at l i) (track_at rows i) sum

  abbrev pub proportion_sum : List (List Float) → Float
  proportion_sum rows = turns (proportion_step rows) (length rows) minus_zero

  -- The least room of the open tracks.
  abbrev pub room_step : List (List Float) → ℕ → Float → Float
  room_step rows i least = less_room (part_at l i) (track_at rows i) least

  abbrev pub least_room : List (List Float) → Float
  least_room rows = turns (room_step rows) (length rows) infinity

-- What a pass leaves: space, and the tracks' rows.
pub record Left : Type 0 where
  pub space : Float
  pub tracks : List (List Float)

abbrev pub left : Float → List (List Float) → Left
left space rows = record { space = space; tracks = rows }

abbrev pub put : ℕ → List (List Float) → Grown → Left
put i rows g = left g.space (set rows i (row_of g.track))

module _ (l : Lists) where
  abbrev pub pass_step : Float → ℕ → Left → Left
  pass_step share i s = put i s.tracks (grown (part_at l i) (track_at s.tracks i) share s.space)

  abbrev pub one_pass : Float → Left → Left
  one_pass share s = turns (pass_step share) (length s.tracks) s

  -- The smaller of the least room and the space by the sum of the proportions.
  abbrev pub share_of : Left → Float
  share_of s = min_of (least_room l s.tracks) (Ieee.div binary32 s.space (proportion_sum l s.tracks))

  -- ---- The passes

  -- No more passes: hardly any space, or no open track.
  abbrev pub stops : Left → Bool
  stops s = Ieee.le s.space threshold || Ieee.eq (proportion_sum l s.tracks) zero32

  unfoldable pub passes : ℕ → Left → Left
  passes zero s = s
  passes (suc most) s = elim (stops s) [ true ↦ s | false ↦ passes most (one_pass (share_of s) s) ]
