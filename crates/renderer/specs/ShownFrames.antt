-- Public: what frames show, and the leases that they hold.
use Rattle.std.specs.Prelude.{◌≡◌, ℕ, List, [], ◌∷◌, map, flat_map}
use Rattle.std.specs.declared.alloc.Global.{Global}
use Rattle.std.specs.declared.sync.Arc.{Arc}
use Rattle.alpha_canvas.specs.Alpha.{AreAlphaRows}
use Rattle.alpha_canvas.specs.declared.pixel.AlphaForm.{AlphaForm}
use Rattle.ass_num.specs.Masks.{MaskValue}
use Rattle.blend.specs.Painting.{picture_of}
use Rattle.bdf_font.specs.Fonts.{FontValue}
use Rattle.bdf_font.specs.declared.sets.FontSet.{FontSet}
use Rattle.blend.specs.Blending.{Image, StencilValue}
use Rattle.blend.specs.Canvases.{CanvasValue}
use Rattle.blend.specs.Images.{image_value, stencil_value}
use Rattle.blend.specs.declared.image.Image as made
use Rattle.blend.specs.declared.stencil.Stencil.{Stencil}
use Rattle.blend.specs.declared.stencil.Stencil.TheVariants as shows
use Rattle.cache_kinds.specs.declared.kinds.CompositeMade.{CompositeMade}
use Rattle.mask_caches.specs.Leases.{lease_value}
use Rattle.mask_caches.specs.declared.lease.Lease.{Lease}
use Rattle.mask_keys.specs.declared.composite_key.CompositeKey.{CompositeKey}
use Rattle.mask_keys.specs.declared.plans.Draw.{Draw}
use Rattle.mask_keys.specs.Pictures.{image_of_draw}
use Rattle.renderer.specs.declared.frames.Frame.{Frame}

-- a lease of a composed mask
abbrev pub MaskLease : Type 0
MaskLease = Lease CompositeMade CompositeKey MaskValue (Arc FontSet Global)

-- an image of a frame, and a clip as its stencil
abbrev pub FrameImage : Type 0
FrameImage = made.Image MaskLease

abbrev pub FrameStencil : Type 0
FrameStencil = Stencil MaskLease

-- ---- what an image shows

-- a clip with the mask of its lease
abbrev pub stencil_shown : FrameStencil → StencilValue
stencil_shown clip = stencil_value lease_value clip

-- an image with the masks of its leases
abbrev pub image_shown : FrameImage → Image
image_shown image = image_value lease_value image

-- The canvas of a frame: its images from black, one after the other.
abbrev pub canvas_of : Frame → CanvasValue
canvas_of frame = picture_of frame.size (map image_shown frame.images)

-- The bytes are the pixels of a frame with alpha: its images, painted over nothing.
abbrev pub AreFramePixels : AlphaForm → Frame → List ℕ → Type 0
AreFramePixels form frame bytes = AreAlphaRows form (map image_shown frame.images) frame.size.w 0 frame.size.h bytes

-- two frames show the same images in the same size
abbrev pub AreSameShown : Frame → Frame → Type 0
AreSameShown a b = (a.size ≡ b.size) × (map image_shown a.images ≡ map image_shown b.images)

-- The images of the frame are these draws, each with the masks of its keys.
abbrev pub ShowsDraws : List FontValue → List Draw → Frame → Type 0
ShowsDraws fonts draws frame = map image_shown frame.images ≡ map (image_of_draw fonts) draws

-- ---- leases of images

abbrev pub leases_of_clip : FrameStencil → List MaskLease
leases_of_clip shows.Free = []
leases_of_clip (shows.Rect _ _ _ _ _) = []
leases_of_clip (shows.Drawn lease _ _ _) = lease ∷ []

-- the lease of an image, and behind it that of its drawn clip, if it has one
abbrev pub leases_of_image : FrameImage → List MaskLease
leases_of_image image = image.mask ∷ leases_of_clip image.stencil

abbrev pub leases_of : List FrameImage → List MaskLease
leases_of images = flat_map leases_of_image images
