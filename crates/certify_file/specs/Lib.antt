pub mod CertificateText
pub mod Lines
