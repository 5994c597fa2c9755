-- Both axes give one board, said of the call and of bytes: where a sheet has an inner size, or a constraint that is definite or max-content, its
-- axis byte may be 0 or 1 and the answer, refusals among it, and the lent sizes are the same. Stated of `front`, the 13 bytes before the axis
-- byte, and `behind`, those after it: of every run of bytes that has an axis byte. Assumes nothing.
use mathlib.Core.Path.{◌≡◌, refl, sym, ap, ap₂, ◌∙◌}
use mathlib.Core.Bool.{false}
use mathlib.Core.List.{List, ◌∷◌, ◌++◌, map}
use Prim.Native.Nat.{ℕ}
use lib.ListN.{length}
use Rattle.kinds.specs.Kinds.{Row, item_of}
use Rattle.sheet_kinds.specs.Axes.{reads_axis}
use Rattle.sheet_kinds.specs.Kinds.{space_of, sheet_track_of}
use Rattle.sheet_kinds.specs.declared.axis.Axis.TheVariants.{Inline, Block}
use Rattle.sheet_kinds.specs.declared.space.Space.{Space}
use Rattle.sheet.specs.Rule.{Fault, fine, fault, sheet_fault, sheet_at}
use Rattle.sheet.proofs.Axes.{axis_at, fault-along, tracks-along, items-along, space-along}
use Rattle.layout.specs.Rule.{BoardOutcome, layout_call}
use Rattle.layout.proofs.SameBoard.{axes-give-one-board}
use Rattle.board.specs.Rule.{sheet_layout, board_as, board_call}

module _ (front behind : List ℕ) (long : length front ≡ axis_at) where
  -- the same bytes with the axis byte of either axis, and the space that the first of them says
  abbrev inline : List ℕ
  inline = front ++ (0 ∷ behind)

  abbrev block : List ℕ
  block = front ++ (1 ∷ behind)

  abbrev said : Space
  said = space_of (sheet_at inline).space

  module _ (sizes : List Row) where
    -- the sheet along the inline axis, laid out in a space
    abbrev laid : Space → BoardOutcome
    laid space = layout_call space (map sheet_track_of (sheet_at inline).tracks) (map item_of (sheet_at inline).items) sizes

    laid-the-same : reads_axis said.inner said.constraint ≡ false → sheet_layout (sheet_at inline) sizes ≡ sheet_layout (sheet_at block) sizes
    laid-the-same e =
        ap laid (space-along front behind long Inline Inline)
        ∙ axes-give-one-board said _ _ Inline Block sizes e
        ∙ ap laid (sym (space-along front behind long Block Inline))
        ∙ ap₂ (λ (tracks items : List Row). layout_call (space_of (sheet_at block).space) (map sheet_track_of tracks) (map item_of items) sizes)
        (tracks-along front behind long Inline Block)
        (items-along front behind long Inline Block)

    pub axis-bytes-give-one-board : reads_axis said.inner said.constraint ≡ false → board_call inline sizes ≡ board_call block sizes
    unfolding board_call
    axis-bytes-give-one-board e = rw (fault-along front behind long Inline Block) (go (sheet_fault block))
      where
        go : (f : Fault) → board_as f (sheet_at inline) sizes ≡ board_as f (sheet_at block) sizes
        go fine = laid-the-same e
        go (fault number place) = refl
