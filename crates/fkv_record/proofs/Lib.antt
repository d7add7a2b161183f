mod ManifestApart
mod ManifestBytes
mod ManifestSections
mod PlacesFit
mod PointApart
mod PointPlaces
mod RangePlaces
mod RecordApart
mod ShapeApart
mod SlotApart
mod Spelling
mod TripleApart
pub mod Shown
