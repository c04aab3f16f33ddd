pub mod HostChanges
