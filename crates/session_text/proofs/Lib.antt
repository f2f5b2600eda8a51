mod SegmentLines
mod Turned
